use Rattle.mb_tree.proofs.HistoryOperations.{history_carries_out}
use Rattle.mb_tree.proofs.history_laws.history_carries_out.Goals as goal

pub returns : goal.returns
returns c = history_carries_out
