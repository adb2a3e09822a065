use Rattle.mb_tree.proofs.Served.{served}
use Rattle.mb_tree.proofs.laws.served_by_effect.Goals as goal

pub returns : goal.returns
returns c = served
