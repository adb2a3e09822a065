use Rattle.std.proofs.Common.{refl}
use Rattle.mb_core_spec.proofs.Counted.{worked_logs_of}
use Rattle.mb_core_spec.proofs.examples.worked_logs.Goals as goal

pub returns-clause-folded : goal.returns-clause-folded
returns-clause-folded c = (refl, refl, refl)

pub returns-clause-entries : goal.returns-clause-entries
returns-clause-entries c = worked_logs_of
