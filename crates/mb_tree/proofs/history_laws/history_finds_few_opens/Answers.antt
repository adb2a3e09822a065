use Rattle.mb_tree.proofs.HistoryOperations.{history_finds_few_opens}
use Rattle.mb_tree.proofs.history_laws.history_finds_few_opens.Goals as goal

pub returns : goal.returns
returns c = history_finds_few_opens
