use Rattle.mb_alloc.proofs.Scanning.{none_picked, worked}
use Rattle.mb_alloc.proofs.laws.number_picks.Goals as goal

pub returns-clause-none : goal.returns-clause-none
returns-clause-none c = none_picked

pub returns-clause-worked : goal.returns-clause-worked
returns-clause-worked c = worked
