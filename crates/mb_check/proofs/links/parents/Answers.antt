use Rattle.std.proofs.Common.{Ok, Err}
use Rattle.mb_check_files.proofs.Stopping.{came_from}
use Rattle.mb_check.proofs.Parenting.{first_stops, then_ends}
use Rattle.mb_check.proofs.SlotWalks.{tests_on}
use Rattle.mb_check.proofs.links.parents.Goals as goal

pub returns-in_err-each_parent-clause-walk : goal.returns-in_err-each_parent-clause-walk
returns-in_err-each_parent-clause-walk c blocks met keeps knows same =
    rw (came_from c.from_residual.result c.in_err-each_parent.field-0.0 c.from_residual.ensures)
    (tests_on c.in_err-each_parent.field-0.0 met _ _ (first_stops blocks met) (c.in_err-each_parent.ensures.walk blocks met keeps knows same))

pub returns-in_err-each_link-clause-walk : goal.returns-in_err-each_link-clause-walk
returns-in_err-each_link-clause-walk c blocks met keeps knows same =
    rw (came_from c.from_residual-in_err-each_link.result c.in_err-each_link.field-0.0 c.from_residual-in_err-each_link.ensures)
    (tests_on c.in_err-each_link.field-0.0 met _ _ (λ broken h. then_ends blocks met (Err broken) (c.in_ok-each_parent.ensures.walk blocks met keeps knows same) h) (c.in_err-each_link.ensures.walk blocks met keeps knows.counted same))

pub returns-clause-walk : goal.returns-clause-walk
returns-clause-walk c blocks met keeps knows same =
    then_ends blocks met (Ok met) (c.in_ok-each_parent.ensures.walk blocks met keeps knows same) (c.in_ok-each_link.ensures.walk blocks met keeps knows.counted same)
