use Rattle.std.proofs.Common.{refl}
use Rattle.mb_run.proofs.examples.worked_late.Goals as goal

pub returns : goal.returns
returns c = (refl, refl, refl)
