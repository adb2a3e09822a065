use Rattle.mb_tree.proofs.Locality.{planned_alike}
use Rattle.mb_tree.proofs.local_laws.planned_alike.Goals as goal

pub returns : goal.returns
returns c = planned_alike
