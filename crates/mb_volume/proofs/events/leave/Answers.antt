use Rattle.std.proofs.Common.{ap, refl}
use Rattle.mb_volume.proofs.Entered.{moves_nothing}
use Rattle.mb_volume.proofs.Inside.{comes_back, comes_left, has_logged, moves_left, own_logged}
use Rattle.mb_core_state.specs.declared.answers.Left.TheVariants as left
use Rattle.mb_volume.proofs.Rising.{leaves_still}
use Rattle.mb_volume.proofs.Marking.{passed_left}
use Rattle.mb_volume.specs.declared.attempt.Attempt.{Attempt}
use Rattle.mb_volume.proofs.events.leave.Goals as goal

pub leave-requires-clause-ticket : goal.leave-requires-clause-ticket
leave-requires-clause-ticket g c = has_logged _ _ _ (g.C.EventCore.sight c.args.core.now) _ c.requires.on.2 _ c.requires.logged

pub returns-in-Skip-clause-comes : goal.returns-in-Skip-clause-comes
returns-in-Skip-clause-comes g c = record {
  comes = λ test. record {
    goes = λ from u. rw c.back.ensures (comes_back _ _ _ _ _ u _ c.in-Skip.ensures.leaves.1);
    marks = rw c.back.ensures (record { passes = λ asked passed has. passed_left (g.C.EventCore.sight c.args.core.now) (g.C.EventCore.sight c.leave.new.self) c.args.attempt.now _ c.requires.logged passed asked; crosses = refl });
    same = ap (λ (a : Attempt). a.crossings.caller) c.back.ensures;
    moves = moves_nothing _ _ _ c.in-Skip.ensures.leaves.1;
  };
  still = leaves_still _ _ c.args.ticket.now (left.Skip c.in-Skip.mine c.in-Skip.now) c.in-Skip.ensures.leaves;
}

pub returns-in-Left-clause-comes : goal.returns-in-Left-clause-comes
returns-in-Left-clause-comes g c = record {
  comes = λ test. record {
    goes = λ from u. comes_left _ _ _ _ _ u _ c.requires.logged _ c.args.attempt.now _ c.in-Left.ensures.leaves;
    marks = record { passes = λ asked passed plain. passed_left (g.C.EventCore.sight c.args.core.now) (g.C.EventCore.sight c.leave.new.self) c.args.attempt.now _ c.requires.logged passed asked; crosses = refl };
    same = refl;
    moves = moves_left _ _ c.args.ticket.now _ (own_logged _ _ _ (g.C.EventCore.sight c.args.core.now) _ c.requires.on.2 _ c.requires.logged) c.in-Left.reply c.in-Left.ensures.leaves;
  };
  still = leaves_still _ _ c.args.ticket.now (left.Left c.in-Left.reply) c.in-Left.ensures.leaves;
}
