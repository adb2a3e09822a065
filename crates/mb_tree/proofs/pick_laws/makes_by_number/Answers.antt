use Rattle.mb_tree.proofs.PickedEffects.{makes_by_number}
use Rattle.mb_tree.proofs.pick_laws.makes_by_number.Goals as goal

pub returns : goal.returns
returns c = makes_by_number
