use Rattle.mb_tree.proofs.VolumeBlocks.{volume_by_its_blocks}
use Rattle.mb_tree.proofs.volume_laws.volume_by_its_blocks.Goals as goal

pub returns : goal.returns
returns c = volume_by_its_blocks
