use Rattle.std.proofs.Common.{refl}
use Rattle.mb_core_spec.proofs.examples.worked_floor.Goals as goal

pub returns : goal.returns
returns c = (refl, refl, refl, refl, refl)
