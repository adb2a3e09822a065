use Rattle.mb_tree.proofs.Leaving.{delink_kept}
use Rattle.mb_tree.proofs.name_laws.delink_kept.Goals as goal

pub returns : goal.returns
returns c = delink_kept
