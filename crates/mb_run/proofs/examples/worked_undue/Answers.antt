use Rattle.std.proofs.Common.{refl}
use Rattle.mb_run.specs.Seals.{undue}
use Rattle.mb_run.proofs.examples.worked_undue.Goals as goal

pub returns : goal.returns
unfolding undue
returns c = (refl, refl, refl, refl, refl)
