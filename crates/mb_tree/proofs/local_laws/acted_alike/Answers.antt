use Rattle.mb_tree.proofs.Locality.{acted_alike}
use Rattle.mb_tree.proofs.local_laws.acted_alike.Goals as goal

pub returns : goal.returns
returns c = acted_alike
