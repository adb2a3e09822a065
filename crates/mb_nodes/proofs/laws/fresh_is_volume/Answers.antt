use Rattle.mb_nodes.proofs.FreshVolumes.{fresh_volume}
use Rattle.mb_nodes.proofs.laws.fresh_is_volume.Goals as goal

pub returns : goal.returns
returns c = fresh_volume
