use Rattle.mb_blocks.proofs.InodeWalks.{walk_enumerates}
use Rattle.mb_blocks.proofs.laws.walk_enumerates.Goals as goal

pub returns : goal.returns
returns c = walk_enumerates
