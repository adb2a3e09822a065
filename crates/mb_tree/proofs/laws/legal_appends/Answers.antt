use Rattle.mb_tree.proofs.Histories.{legal_both}
use Rattle.mb_tree.proofs.laws.legal_appends.Goals as goal

pub returns : goal.returns
returns c = legal_both
