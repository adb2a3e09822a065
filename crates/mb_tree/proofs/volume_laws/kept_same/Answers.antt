use Rattle.mb_tree.proofs.KeptVolumes.{kept_same}
use Rattle.mb_tree.proofs.volume_laws.kept_same.Goals as goal

pub returns : goal.returns
returns c = kept_same
