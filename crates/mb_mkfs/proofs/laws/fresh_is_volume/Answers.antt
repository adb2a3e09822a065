use Rattle.mb_nodes.proofs.FreshVolumes.{fresh_volume}
use Rattle.mb_mkfs.specs.Sizes.{isize_for}
use Rattle.mb_mkfs.specs.Volume.{fresh}
use Rattle.mb_mkfs.proofs.Rooting.{fresh_made}
use Rattle.mb_mkfs.proofs.laws.fresh_is_volume.Goals as goal

pub returns-clause-made : goal.returns-clause-made
returns-clause-made c = fresh_made

pub returns-clause-volume : goal.returns-clause-volume
returns-clause-volume c blocks inodes sizes = fresh_volume (fresh blocks inodes) (isize_for inodes) blocks (fresh_made blocks inodes sizes)
