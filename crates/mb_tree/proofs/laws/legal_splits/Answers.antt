use Rattle.mb_tree.proofs.Histories.{legal_parts}
use Rattle.mb_tree.proofs.laws.legal_splits.Goals as goal

pub returns : goal.returns
returns c = legal_parts
