use Rattle.mb_tree.proofs.KeptVolumes.{kept_composes}
use Rattle.mb_tree.proofs.volume_laws.kept_composes.Goals as goal

pub returns : goal.returns
returns c = kept_composes
