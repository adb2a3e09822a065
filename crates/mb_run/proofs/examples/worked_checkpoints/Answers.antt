use Rattle.std.proofs.Common.{arith, refl}
use Rattle.mb_run.proofs.examples.worked_checkpoints.Goals as goal

pub returns : goal.returns
returns c = (refl, refl, refl, refl, refl, refl, record { few = omega arith; synced = (refl, tt) })
