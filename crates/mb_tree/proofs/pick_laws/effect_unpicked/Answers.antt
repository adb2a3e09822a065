use Rattle.mb_tree.proofs.PickedEffects.{unpicked}
use Rattle.mb_tree.proofs.pick_laws.effect_unpicked.Goals as goal

pub returns : goal.returns
returns c = unpicked
