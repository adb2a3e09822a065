use Rattle.mb_moves.proofs.Trees.{costs_no_less, refused_more}
use Rattle.mb_moves.proofs.tree_laws.cost_with_more.Goals as goal

pub returns : goal.returns
returns c = λ tree nodes ino node none. (costs_no_less tree nodes ino node none, refused_more tree nodes ino node none)
