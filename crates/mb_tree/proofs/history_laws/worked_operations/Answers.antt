use Rattle.mb_tree.proofs.CarryingOut.{worked_operations}
use Rattle.mb_tree.proofs.history_laws.worked_operations.Goals as goal

pub returns : goal.returns
returns c = worked_operations
