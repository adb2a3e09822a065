use Rattle.mb_journal.specs.Faults.{HasNoOwn}
use Rattle.mb_journal.proofs.own_faults.next_own.Given as goal

abbrev pub invariant-loop-at : goal.invariant-loop-at
invariant-loop-at l = HasNoOwn l.records l.caller l.ordinal l.above l.at
