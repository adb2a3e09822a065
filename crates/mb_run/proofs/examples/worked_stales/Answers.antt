use Rattle.std.proofs.Common.{refl}
use Rattle.mb_run.specs.Stales.{stales_beyond, stales_since}
use Rattle.mb_run.proofs.examples.worked_stales.Goals as goal

pub returns : goal.returns
unfolding stales_beyond stales_since
returns c = (refl, refl, refl, refl, refl)
