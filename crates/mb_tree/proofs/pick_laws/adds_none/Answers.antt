use Rattle.mb_tree.proofs.PickedEffects.{adds_none}
use Rattle.mb_tree.proofs.pick_laws.adds_none.Goals as goal

pub returns : goal.returns
returns c = adds_none
