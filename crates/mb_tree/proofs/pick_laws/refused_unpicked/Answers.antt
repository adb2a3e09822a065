use Rattle.mb_tree.proofs.PickedEffects.{refused_unpicked}
use Rattle.mb_tree.proofs.pick_laws.refused_unpicked.Goals as goal

pub returns : goal.returns
returns c = refused_unpicked
