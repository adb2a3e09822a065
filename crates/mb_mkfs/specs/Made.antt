-- What making a volume leaves of a disk's image, where the disk tells it.
use Rattle.std.specs.Prelude.{ℕ, ◌<◌, ◌≤◌, ◌≡◌, ⊤, max, Option, Some, None}
use Rattle.mb_kinds.specs.Image.{Image}
use Rattle.mb_tree.specs.Volume.{IsVolume}
use Rattle.mb_nodes.specs.Fresh.{fresh_tree}
use Rattle.mb_mkfs.specs.Sizes.{isize_for}
use Rattle.mb_mkfs.specs.Volume.{fresh}

-- the blocks of a fresh volume, and thereby a volume of the tree that has the root alone
pub record IsWritten (old new : Image) (blocks inodes : ℕ) : Type 0 where
  pub below : (block : ℕ) → block < blocks → new.at block ≡ (fresh blocks inodes).at block
  pub count : new.count ≡ max old.count blocks
  pub volume : IsVolume new (fresh_tree (isize_for inodes) blocks)

abbrev pub IsMade : Option Image → Option Image → ℕ → ℕ → Type 0
IsMade None new blocks inodes = ⊤
IsMade (Some old) None blocks inodes = ⊥
IsMade (Some old) (Some new) blocks inodes = IsWritten old new blocks inodes

-- a disk that tells its image tells it still, and every block from this one on has the bytes that it had
abbrev pub KeepsFrom : Option Image → Option Image → ℕ → Type 0
KeepsFrom None new from = ⊤
KeepsFrom (Some old) None from = ⊥
KeepsFrom (Some old) (Some new) from = (block : ℕ) → from ≤ block → new.at block ≡ old.at block
