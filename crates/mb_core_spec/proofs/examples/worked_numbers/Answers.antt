use Rattle.std.proofs.Common.{refl}
use Rattle.mb_core_spec.proofs.examples.worked_numbers.Goals as goal

pub returns : goal.returns
returns c = λ call other. (refl, refl, refl)
