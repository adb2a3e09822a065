use Rattle.mb_journal.proofs.OwnFaults.{none_twice, once_only}
use Rattle.mb_journal.proofs.journals.Journal.own_faults.Goals as goal

pub returns-in_default : goal.returns-in_default
returns-in_default c = none_twice _ _ _ (rw c.records-records.ensures at c.in_default.ensures.none)

pub returns-in_default-next_own : goal.returns-in_default-next_own
returns-in_default-next_own c = once_only _ _ _ _ (rw c.records-records.ensures at c.in-Some.ensures.some) (rw c.records-records.ensures at c.in_default-next_own.ensures.none)
