use Rattle.mb_tree.proofs.Dropped.{release_kept}
use Rattle.mb_tree.proofs.laws.release_kept.Goals as goal

pub returns : goal.returns
returns c = release_kept
