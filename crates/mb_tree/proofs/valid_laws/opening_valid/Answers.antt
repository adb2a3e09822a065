use Rattle.mb_tree.proofs.Opened.{opening_valid}
use Rattle.mb_tree.proofs.valid_laws.opening_valid.Goals as goal

pub returns : goal.returns
returns c = opening_valid
