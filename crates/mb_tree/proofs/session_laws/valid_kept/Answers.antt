use Rattle.mb_tree.proofs.ValidKept.{valid_kept}
use Rattle.mb_tree.proofs.session_laws.valid_kept.Goals as goal

pub returns : goal.returns
returns c = valid_kept
