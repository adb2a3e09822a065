use Rattle.mb_tree.proofs.HistoryOperations.{callers_stay}
use Rattle.mb_tree.proofs.history_laws.callers_stay.Goals as goal

pub returns : goal.returns
returns c = callers_stay
