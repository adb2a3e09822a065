use Rattle.mb_tree.proofs.OneTrees.{one_tree}
use Rattle.mb_tree.proofs.valid_laws.one_tree.Goals as goal

pub returns : goal.returns
returns c = one_tree
