use Rattle.mb_tree.proofs.KeptVolumes.{volume_resized}
use Rattle.mb_tree.proofs.volume_laws.volume_resized.Goals as goal

pub returns : goal.returns
returns c = volume_resized
