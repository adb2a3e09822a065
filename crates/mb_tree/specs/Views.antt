-- Blocks over one another, and what a volume keeps while its tree changes.
use Rattle.std.specs.Prelude.{List, ℕ, ◌+◌, ◌-◌, ◌*◌, ◌<◌, ◌≤◌, ◌≡◌, ◌≢◌, ◌⊎◌, Option, All, IfSome, unwrap_or, slice_index}
use Rattle.mb_kinds.specs.Image.{Image}
use Rattle.mb_word.specs.Fields.{isize_of, fsize_of, ninode_of, cached_of, inode_block, inode_place, mode_of}
use Rattle.mb_word.specs.Numbers.{SameFrom}
use Rattle.mb_tree.specs.declared.trees.Tree.{Tree}
use Rattle.mb_tree.specs.Blocks.{pointers, IsFreeChain}
use Rattle.mb_tree.specs.Places.{Place, at, IsPlace}
use Rattle.mb_tree.specs.Volume.{has_addresses, last_inode}

-- the blocks as they read under the pages that lie over some of them
unfoldable pub over : (ℕ → List ℕ) → (ℕ → Option (List ℕ)) → ℕ → List ℕ
over blocks pages block = unwrap_or (pages block) (blocks block)

-- each block that a view gives has the image's bytes
abbrev pub IsPart : (ℕ → Option (List ℕ)) → (ℕ → List ℕ) → Type 0
IsPart shown blocks = (block : ℕ) → IfSome (shown block) (λ bytes. blocks block ≡ bytes)

-- a block that neither a node nor the free chain holds
pub record IsLost (tree : Tree) (blocks : ℕ → List ℕ) (block : ℕ) : Type 0 where
  pub by_no_node : (q : Place) → IsPlace (has_addresses tree) q → at (pointers blocks) q ≢ block
  pub not_free : (chain : List ℕ) → IsFreeChain blocks chain → All (λ free. free ≢ block) chain

-- a number that the super-block's cache has
abbrev pub IsCached : List ℕ → ℕ → Type 0
IsCached super number = (k : ℕ) × (k < ninode_of super) × (cached_of super k ≡ number)

-- a number that a cache may come to have: one that it has, or one from 3 to the last inode
abbrev pub MayCache : List ℕ → ℕ → Type 0
MayCache super number = IsCached super number ⊎ ((3 ≤ number) × (number ≤ 8 * (isize_of super - 2)))

-- a cache gets no other numbers
abbrev pub KeepsCache : List ℕ → List ℕ → Type 0
KeepsCache old new = (k : ℕ) → k < ninode_of new → MayCache old (cached_of new k)

-- an inode's bytes are zeros, but for the one that holds no address
abbrev pub IsWiped : List ℕ → ℕ → Type 0
IsWiped bytes place = (k : ℕ) → k < 64 → k ≢ 51 → slice_index bytes (64 * place + k) ≡ 0

-- an inode was free, and its bytes stay
abbrev pub StaysFree : List ℕ → List ℕ → ℕ → Type 0
StaysFree old new place = (mode_of old place ≡ 0) × SameFrom new old (64 * place) 64

-- an inode that is free was wiped since it was in use, or was free all along
abbrev pub IsFreedWiped : (ℕ → List ℕ) → (ℕ → List ℕ) → ℕ → Type 0
IsFreedWiped old new ino = mode_of (new (inode_block ino)) (inode_place ino) ≡ 0
    → IsWiped (new (inode_block ino)) (inode_place ino) ⊎ StaysFree (old (inode_block ino)) (new (inode_block ino)) (inode_place ino)

-- what stays as it was on a volume, whatever happens to its tree: block 0, the sizes and the unused
-- end of the super-block, whose cache gets no number past the last inode, the byte of each inode that holds no address, the
-- blocks that are not available to files, and those that nothing leads to; and an inode that comes free is wiped
pub record Kept (before : Tree) (old : Image) (later : Tree) (new : Image) : Type 0 where
  pub boot : new.at 0 ≡ old.at 0
  pub sizes : SameFrom (new.at 1) (old.at 1) 0 6
  pub unused : SameFrom (new.at 1) (old.at 1) 410 102
  pub cached : KeepsCache (old.at 1) (new.at 1)
  pub inodes : (ino : ℕ) → 0 < ino → ino ≤ last_inode old.at
      → slice_index (new.at (inode_block ino)) (64 * inode_place ino + 51) ≡ slice_index (old.at (inode_block ino)) (64 * inode_place ino + 51)
  pub freed : (ino : ℕ) → 0 < ino → ino ≤ last_inode old.at → IsFreedWiped old.at new.at ino
  pub past : (block : ℕ) → fsize_of (old.at 1) ≤ block → new.at block ≡ old.at block
  pub lost : (block : ℕ) → isize_of (old.at 1) ≤ block → block < fsize_of (old.at 1) → IsLost before old.at block
      → IsLost later new.at block × (new.at block ≡ old.at block)
  pub lost_before : (block : ℕ) → isize_of (old.at 1) ≤ block → block < fsize_of (old.at 1) → IsLost later new.at block → IsLost before old.at block
