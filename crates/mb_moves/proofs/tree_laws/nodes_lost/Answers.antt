use Rattle.mb_moves.proofs.Trees.{released}
use Rattle.mb_moves.proofs.tree_laws.nodes_lost.Goals as goal

pub returns-clause-opened : goal.returns-clause-opened
returns-clause-opened c = released
