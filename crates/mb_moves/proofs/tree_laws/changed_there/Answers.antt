use Rattle.mb_moves.proofs.Trees.{nodes_put}
use Rattle.mb_moves.proofs.tree_laws.changed_there.Goals as goal

pub returns-clause-put : goal.returns-clause-put
returns-clause-put c = nodes_put
