-- What a fresh volume is.
use Rattle.std.specs.Prelude.{ℕ}
use Rattle.mb_tree.specs.Volume.{IsVolume}
use Rattle.mb_nodes.specs.Fresh.{IsFresh, fresh_tree}
use Rattle.mb_mkfs.specs.Sizes.{AreSizes, isize_for}
use Rattle.mb_mkfs.specs.Volume.{fresh}

-- its free chain is what the freeing steps lay, one block after another from the last one down, and its root stands
-- alone
abbrev pub FreshIsMade : Type 0
FreshIsMade = (blocks inodes : ℕ) → AreSizes blocks inodes → IsFresh (fresh blocks inodes) (isize_for inodes) blocks

-- it is a volume of the tree that has the root alone
abbrev pub MadeIsVolume : Type 0
MadeIsVolume = (blocks inodes : ℕ) → AreSizes blocks inodes → IsVolume (fresh blocks inodes) (fresh_tree (isize_for inodes) blocks)
