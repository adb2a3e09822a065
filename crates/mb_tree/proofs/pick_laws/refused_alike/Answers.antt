use Rattle.mb_tree.proofs.PickedEffects.{refused_alike}
use Rattle.mb_tree.proofs.pick_laws.refused_alike.Goals as goal

pub returns : goal.returns
returns c = refused_alike
