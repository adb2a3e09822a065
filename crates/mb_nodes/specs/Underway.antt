-- An operation under way in one inode, between its first write and its last.
use Rattle.std.specs.Prelude.{List, [], ℕ, ◌+◌, ◌*◌, ◌<◌, ◌≤◌, ◌≡◌, ◌≢◌, Bool, slice_index}
use Rattle.mb_kinds.specs.Image.{Image}
use Rattle.mb_word.specs.Fields.{ninode_of, inode_block, inode_place}
use Rattle.mb_word.specs.Numbers.{SameFrom}
use Rattle.mb_tree.specs.Volume.{has_addresses}
use Rattle.mb_tree.specs.declared.trees.Tree.{Tree}
use Rattle.mb_blocks.specs.Laid.{IsLaid, IndexesLeadOn}
use Rattle.mb_blocks.specs.Conserved.{Conserves}
use Rattle.mb_blocks.specs.Inodes.{KeepsInodeBytes}
use Rattle.mb_blocks.specs.Owners.{without}
use Rattle.mb_blocks.specs.Pointing.{KeepsHeld}

-- the bytes of the other inodes and the blocks that they hold stay
pub record KeepsOthers (tree : Tree) (old new : ℕ → List ℕ) (ino : ℕ) : Type 0 where
  pub bytes : (j : ℕ) → 0 < j → j ≤ tree.last → j ≢ ino → KeepsInodeBytes old new j
  pub held : KeepsHeld (without (has_addresses tree) ino) old new
  pub front : SameFrom (new 1) (old 1) 0 6
  pub cached : ninode_of (new 1) ≤ 100
  pub back : SameFrom (new 1) (old 1) 208 304
  pub byte : slice_index (new (inode_block ino)) (64 * inode_place ino + 51) ≡ slice_index (old (inode_block ino)) (64 * inode_place ino + 51)

-- the inodes with addresses are those of the tree, but perhaps at one
abbrev pub AgreesOff : Tree → ℕ → (ℕ → Bool) → Type 0
AgreesOff tree ino has = (j : ℕ) → j ≢ ino → has j ≡ has_addresses tree j

-- the blocks are laid, each index block leads on, the other inodes stay, and no block is lost
pub record IsUnderway (image : Image) (tree : Tree) (chain : List ℕ) (ino : ℕ) (has : ℕ → Bool) (now : ℕ → List ℕ) (left : List ℕ) : Type 0 where
  pub laid : IsLaid has now [] left
  pub leads : IndexesLeadOn has now
  pub keeps : KeepsOthers tree image.at now ino
  pub conserves : Conserves (has_addresses tree) has image.at now chain left
