use Rattle.std.proofs.Common.{ap, refl}
use Rattle.mb_volume.specs.declared.attempt.Attempt.{Attempt}
use Rattle.mb_volume.proofs.Entered.{comes_done, comes_inside, comes_not_in, comes_shut, moves_begins, moves_done, moves_nothing}
use Rattle.mb_volume.proofs.Standing.{may_enter}
use Rattle.mb_volume.proofs.Rising.{done_still, nothing_still}
use Rattle.mb_volume.proofs.Marking.{passed_done, passed_shut}
use Rattle.mb_volume.proofs.events.enter.Goals as goal

pub enter-requires-clause-may : goal.enter-requires-clause-may
enter-requires-clause-may g c = may_enter _ _ _ (g.C.EventCore.sight c.args.core.now) _ c.requires.on.2

pub returns-in-Done-clause-comes : goal.returns-in-Done-clause-comes
returns-in-Done-clause-comes g c = record {
  comes = λ test. record {
    goes = λ from u. comes_done _ _ _ _ _ u _ c.args.attempt.now _ c.in-Done.ensures.enters;
    marks = record { passes = λ passed. passed_done _ _ c.args.attempt.now c.args.call.now c.in-Done.reply c.requires.outside c.in-Done.ensures.enters passed; crosses = refl };
    same = refl;
    moves = moves_done _ _ _ _ _ c.requires.right c.in-Done.ensures.enters;
  };
  still = done_still _ _ _ _ _ c.in-Done.ensures.enters;
}

pub returns-in-Shut-clause-comes : goal.returns-in-Shut-clause-comes
returns-in-Shut-clause-comes g c = record {
  comes = λ test. record {
    goes = λ from u. comes_shut _ _ _ _ _ u _ c.requires.outside c.in-Shut.ensures.enters;
    marks = record { passes = λ passed. passed_shut (g.C.EventCore.sight c.args.core.now) _ c.args.attempt.now _ c.requires.outside c.in-Shut.ensures.enters.1 c.in-Shut.ensures.enters.2; crosses = refl };
    same = refl;
    moves = moves_begins _ _ _ _ c.in-Shut.ensures.enters.2;
  };
  still = c.in-Shut.ensures.enters.2.stays.records;
}

pub returns-in-NoMemory-clause-comes : goal.returns-in-NoMemory-clause-comes
returns-in-NoMemory-clause-comes g c = record {
  comes = λ test. record {
    goes = λ from u. comes_not_in _ _ _ _ _ u _ c.in-NoMemory.ensures.enters;
    marks = record { passes = λ passed. tt; crosses = refl };
    same = refl;
    moves = moves_nothing _ _ _ c.in-NoMemory.ensures.enters.0;
  };
  still = nothing_still _ _ c.in-NoMemory.ensures.enters.0;
}

pub returns-in-Inside-clause-comes : goal.returns-in-Inside-clause-comes
returns-in-Inside-clause-comes g c = record {
  comes = λ test. record {
    goes = λ from u. rw c.go_in.ensures (comes_inside _ _ _ _ _ u _ _ c.in-Inside.ensures.enters);
    marks = rw c.go_in.ensures (record { passes = λ passed. (refl, refl); crosses = refl });
    same = ap (λ (a : Attempt). a.crossings.caller) c.go_in.ensures;
    moves = moves_begins _ _ _ _ c.in-Inside.ensures.enters.begins;
  };
  still = c.in-Inside.ensures.enters.begins.stays.records;
}
