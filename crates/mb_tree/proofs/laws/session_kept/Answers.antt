use Rattle.mb_tree.proofs.Seated.{session_kept}
use Rattle.mb_tree.proofs.laws.session_kept.Goals as goal

pub returns : goal.returns
returns c = session_kept
