use Rattle.std.proofs.Common.{ap, refl}
use Rattle.mb_core_state.specs.declared.answers.Finished.TheVariants as finished
use Rattle.mb_run.proofs.Amiss.{finishes_amiss}
use Rattle.mb_volume.proofs.Entered.{comes_nothing}
use Rattle.mb_volume.proofs.Inside.{call_at, comes_back, comes_busy, comes_sealed, comes_stale, has_ticket, lacks_inside, moves_finishes, own_ticket, ready_at}
use Rattle.mb_volume.proofs.Rising.{finishes_still}
use Rattle.mb_volume.proofs.Marking.{passed_back, passed_busy, passed_logged, passed_stale}
use Rattle.mb_volume.specs.declared.attempt.Attempt.{Attempt}
use Rattle.mb_volume.proofs.events.finish.Goals as goal

pub finish-finished-requires-clause-ticket : goal.finish-finished-requires-clause-ticket
finish-finished-requires-clause-ticket g c = has_ticket _ _ _ (g.C.EventCore.sight c.args.core.now) _ c.requires.on.2 _ c.requires.inside

pub finish-finished-requires-clause-tables : goal.finish-finished-requires-clause-tables
finish-finished-requires-clause-tables g c = c.requires.on.2.tables

pub finish-finished-requires-clause-ready : goal.finish-finished-requires-clause-ready
finish-finished-requires-clause-ready g c = ready_at _ _ _ (g.C.EventCore.sight c.args.core.now) _ c.requires.on.2 _ c.requires.inside _ c.requires.ready

pub finish-finished-requires-clause-call : goal.finish-finished-requires-clause-call
finish-finished-requires-clause-call g c = call_at _ _ _ (g.C.EventCore.sight c.args.core.now) _ c.requires.on.2 _ c.requires.inside

pub returns-in-Skip-clause-comes : goal.returns-in-Skip-clause-comes
returns-in-Skip-clause-comes g c = record {
  comes = λ test. record {
    goes = λ from u. rw c.back.ensures (comes_back _ _ _ _ _ u _ c.in-Skip.ensures.finishes.1);
    marks = rw c.back.ensures (record { passes = λ asked passed. passed_back _ _ c.args.attempt.now c.in-Skip.ensures.finishes.1 (lacks_inside _ _ _ (g.C.EventCore.sight c.args.core.now) _ c.requires.on.2 _ c.requires.inside); crosses = refl });
    same = ap (λ (a : Attempt). a.crossings.caller) c.back.ensures;
    moves = moves_finishes _ _ c.args.ticket.now _ (own_ticket _ _ _ (g.C.EventCore.sight c.args.core.now) _ c.requires.on.2 _ c.requires.inside) c.args.attempt.now.pages c.args.call.now (finished.Skip c.in-Skip.mine c.in-Skip.now)
        (finishes_amiss (g.C.EventCore.sight c.args.core.now) (g.C.EventCore.sight c.finish-finished.new.self) c.args.ticket.now c.args.attempt.now.pages c.args.call.now (finished.Skip c.in-Skip.mine c.in-Skip.now) (has_ticket _ _ _ (g.C.EventCore.sight c.args.core.now) _ c.requires.on.2 _ c.requires.inside) (call_at _ _ _ (g.C.EventCore.sight c.args.core.now) _ c.requires.on.2 _ c.requires.inside) c.requires.right c.in-Skip.ensures.finishes)
        c.in-Skip.ensures.finishes;
  };
  still = finishes_still _ _ c.args.ticket.now c.args.attempt.now.pages c.args.call.now (finished.Skip c.in-Skip.mine c.in-Skip.now) c.in-Skip.ensures.finishes;
}

pub returns-in-Busy-clause-comes : goal.returns-in-Busy-clause-comes
returns-in-Busy-clause-comes g c = record {
  comes = λ test. record {
    goes = λ from u. comes_busy _ _ _ _ _ u _ c.in-Busy.ensures.finishes.3;
    marks = record { passes = λ asked passed. passed_busy (g.C.EventCore.sight c.args.core.now) (g.C.EventCore.sight c.finish-finished.new.self) c.args.attempt.now _ c.requires.inside passed asked; crosses = refl };
    same = refl;
    moves = moves_finishes _ _ c.args.ticket.now _ (own_ticket _ _ _ (g.C.EventCore.sight c.args.core.now) _ c.requires.on.2 _ c.requires.inside) c.args.attempt.now.pages c.args.call.now (finished.Busy c.in-Busy.holder)
        (finishes_amiss (g.C.EventCore.sight c.args.core.now) (g.C.EventCore.sight c.finish-finished.new.self) c.args.ticket.now c.args.attempt.now.pages c.args.call.now (finished.Busy c.in-Busy.holder) (has_ticket _ _ _ (g.C.EventCore.sight c.args.core.now) _ c.requires.on.2 _ c.requires.inside) (call_at _ _ _ (g.C.EventCore.sight c.args.core.now) _ c.requires.on.2 _ c.requires.inside) c.requires.right c.in-Busy.ensures.finishes)
        c.in-Busy.ensures.finishes;
  };
  still = finishes_still _ _ c.args.ticket.now c.args.attempt.now.pages c.args.call.now (finished.Busy c.in-Busy.holder) c.in-Busy.ensures.finishes;
}

pub returns-in-Stale-clause-comes : goal.returns-in-Stale-clause-comes
returns-in-Stale-clause-comes g c = record {
  comes = λ test. record {
    goes = λ from u. rw c.go_in.ensures (comes_stale _ _ _ _ _ u _ c.requires.inside _ c.in-Stale.block c.in-Stale.ensures.finishes);
    marks = rw c.go_in.ensures (record { passes = λ asked passed. passed_stale (g.C.EventCore.sight c.args.core.now) (g.C.EventCore.sight c.finish-finished.new.self) c.args.attempt.now _ c.requires.inside passed; crosses = refl });
    same = ap (λ (a : Attempt). a.crossings.caller) c.go_in.ensures;
    moves = moves_finishes _ _ c.args.ticket.now _ (own_ticket _ _ _ (g.C.EventCore.sight c.args.core.now) _ c.requires.on.2 _ c.requires.inside) c.args.attempt.now.pages c.args.call.now (finished.Stale c.in-Stale.block)
        (finishes_amiss (g.C.EventCore.sight c.args.core.now) (g.C.EventCore.sight c.finish-finished.new.self) c.args.ticket.now c.args.attempt.now.pages c.args.call.now (finished.Stale c.in-Stale.block) (has_ticket _ _ _ (g.C.EventCore.sight c.args.core.now) _ c.requires.on.2 _ c.requires.inside) (call_at _ _ _ (g.C.EventCore.sight c.args.core.now) _ c.requires.on.2 _ c.requires.inside) c.requires.right c.in-Stale.ensures.finishes)
        c.in-Stale.ensures.finishes;
  };
  still = finishes_still _ _ c.args.ticket.now c.args.attempt.now.pages c.args.call.now (finished.Stale c.in-Stale.block) c.in-Stale.ensures.finishes;
}

pub returns-in-NoMemory-clause-comes : goal.returns-in-NoMemory-clause-comes
returns-in-NoMemory-clause-comes g c = record {
  comes = λ test. record {
    goes = λ from u. comes_nothing _ _ _ _ _ u _ c.in-NoMemory.ensures.finishes.1 (lacks_inside _ _ _ (g.C.EventCore.sight c.args.core.now) _ u _ c.requires.inside);
    marks = record { passes = λ asked passed. tt; crosses = refl };
    same = refl;
    moves = moves_finishes _ _ c.args.ticket.now _ (own_ticket _ _ _ (g.C.EventCore.sight c.args.core.now) _ c.requires.on.2 _ c.requires.inside) c.args.attempt.now.pages c.args.call.now finished.NoMemory
        (finishes_amiss (g.C.EventCore.sight c.args.core.now) (g.C.EventCore.sight c.finish-finished.new.self) c.args.ticket.now c.args.attempt.now.pages c.args.call.now finished.NoMemory (has_ticket _ _ _ (g.C.EventCore.sight c.args.core.now) _ c.requires.on.2 _ c.requires.inside) (call_at _ _ _ (g.C.EventCore.sight c.args.core.now) _ c.requires.on.2 _ c.requires.inside) c.requires.right c.in-NoMemory.ensures.finishes)
        c.in-NoMemory.ensures.finishes;
  };
  still = finishes_still _ _ c.args.ticket.now c.args.attempt.now.pages c.args.call.now finished.NoMemory c.in-NoMemory.ensures.finishes;
}

pub returns-in-Logged-clause-comes : goal.returns-in-Logged-clause-comes
returns-in-Logged-clause-comes g c = record {
  comes = λ test. record {
    goes = λ from u. comes_sealed _ _ _ _ _ u _ c.requires.inside _ c.in-Logged.ensures.finishes;
    marks = record { passes = λ asked passed. passed_logged (g.C.EventCore.sight c.args.core.now) (g.C.EventCore.sight c.finish-finished.new.self) c.args.attempt.now _ c.requires.inside passed c.requires.there asked; crosses = refl };
    same = refl;
    moves = moves_finishes _ _ c.args.ticket.now _ (own_ticket _ _ _ (g.C.EventCore.sight c.args.core.now) _ c.requires.on.2 _ c.requires.inside) c.args.attempt.now.pages c.args.call.now finished.Logged
        (finishes_amiss (g.C.EventCore.sight c.args.core.now) (g.C.EventCore.sight c.finish-finished.new.self) c.args.ticket.now c.args.attempt.now.pages c.args.call.now finished.Logged (has_ticket _ _ _ (g.C.EventCore.sight c.args.core.now) _ c.requires.on.2 _ c.requires.inside) (call_at _ _ _ (g.C.EventCore.sight c.args.core.now) _ c.requires.on.2 _ c.requires.inside) c.requires.right c.in-Logged.ensures.finishes)
        c.in-Logged.ensures.finishes;
  };
  still = finishes_still _ _ c.args.ticket.now c.args.attempt.now.pages c.args.call.now finished.Logged c.in-Logged.ensures.finishes;
}
