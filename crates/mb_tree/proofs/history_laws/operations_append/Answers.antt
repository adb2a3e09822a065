use Rattle.mb_tree.proofs.HistoryOperations.{operations_append}
use Rattle.mb_tree.proofs.history_laws.operations_append.Goals as goal

pub returns : goal.returns
returns c = operations_append
