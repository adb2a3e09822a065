use Rattle.mb_tree.proofs.KeptVolumes.{kept_resized}
use Rattle.mb_tree.proofs.volume_laws.kept_resized.Goals as goal

pub returns : goal.returns
returns c = kept_resized
