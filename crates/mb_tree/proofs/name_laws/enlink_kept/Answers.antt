use Rattle.mb_tree.proofs.NewNames.{enlink_kept}
use Rattle.mb_tree.proofs.name_laws.enlink_kept.Goals as goal

pub returns : goal.returns
returns c = enlink_kept
