use Rattle.mb_namei.proofs.InodeNodes.{inodes_are}
use Rattle.mb_namei.proofs.laws.inodes_are_nodes.Goals as goal

pub returns : goal.returns
returns c = inodes_are
