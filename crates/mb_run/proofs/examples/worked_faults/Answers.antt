use Rattle.std.proofs.Common.{refl}
use Rattle.mb_run.proofs.examples.worked_faults.Goals as goal

pub returns : goal.returns
returns c = ((refl, (refl, tt)), refl, refl, refl, refl, refl, refl, refl, refl, refl, refl, refl)
