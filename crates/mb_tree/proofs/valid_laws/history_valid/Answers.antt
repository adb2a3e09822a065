use Rattle.mb_tree.proofs.ValidHistories.{history_valid}
use Rattle.mb_tree.proofs.valid_laws.history_valid.Goals as goal

pub returns : goal.returns
returns c = history_valid
