use Rattle.mb_layout.proofs.InodeWriting.{dinode_written}
use Rattle.mb_layout.proofs.laws.inode_written.Goals as goal

pub returns : goal.returns
returns c = dinode_written
