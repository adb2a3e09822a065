use Rattle.std.proofs.Common.{refl}
use Rattle.mb_nodes.proofs.laws.worked_numbers.Goals as goal

pub returns : goal.returns
returns c = record { order = refl; last = refl; cap = refl }
