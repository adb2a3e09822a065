use Rattle.mb_run.proofs.Beginning.{are_new}
use Rattle.mb_run.proofs.drives.drive_core.Goals as goal

pub run_all-done-requires-clause-runners : goal.run_all-done-requires-clause-runners
run_all-done-requires-clause-runners g c = rw (c.new.ensures, c.new-2.ensures, c.new-3.ensures, c.new-4.ensures, c.new-5.ensures, c.new-6.ensures, c.new-7.ensures, c.new-8.ensures) (are_new _ _ c.len-count.ensures c.requires.runnable.callers)

pub returns-clause-driven : goal.returns-clause-driven
returns-clause-driven g c = λ so. c.run_all-done.ensures.driven (c.end_of.ensures.done so)
