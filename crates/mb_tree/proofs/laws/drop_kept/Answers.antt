use Rattle.mb_tree.proofs.Dropped.{drop_kept}
use Rattle.mb_tree.proofs.laws.drop_kept.Goals as goal

pub returns : goal.returns
returns c = drop_kept
