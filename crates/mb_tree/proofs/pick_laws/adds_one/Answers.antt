use Rattle.mb_tree.proofs.PickedEffects.{adds_one}
use Rattle.mb_tree.proofs.pick_laws.adds_one.Goals as goal

pub returns : goal.returns
returns c = adds_one
