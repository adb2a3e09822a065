use Rattle.mb_tree.proofs.HistoryOperations.{few_opens}
use Rattle.mb_tree.proofs.history_laws.few_opens.Goals as goal

pub returns : goal.returns
returns c = few_opens
