use Rattle.mb_tree.proofs.Histories.{legal_more}
use Rattle.mb_tree.proofs.laws.legal_grows.Goals as goal

pub returns : goal.returns
returns c = legal_more
