use Rattle.mb_layout.proofs.InodeOrder.{place_below, inode_in_list, inodes_apart}
use Rattle.mb_layout.proofs.laws.inode_places.Goals as goal

pub returns-clause-below : goal.returns-clause-below
returns-clause-below c = place_below

pub returns-clause-within : goal.returns-clause-within
returns-clause-within c = inode_in_list

pub returns-clause-apart : goal.returns-clause-apart
returns-clause-apart c = inodes_apart
