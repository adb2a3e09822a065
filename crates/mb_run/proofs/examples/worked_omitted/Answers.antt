use Rattle.std.proofs.Common.{refl}
use Rattle.mb_run.specs.Seals.{omitted}
use Rattle.mb_run.proofs.examples.worked_omitted.Goals as goal

pub returns : goal.returns
unfolding omitted
returns c = (refl, refl, refl, refl)
