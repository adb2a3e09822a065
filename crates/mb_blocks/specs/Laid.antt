-- What holds of a volume's blocks between two writes of a change: which block an address leads to, which are
-- free, and which are in hand, taken and not yet held or let go and not yet free (V7 filsys(5)).
use Rattle.std.specs.Prelude.{List, ◌++◌, ℕ, ◌<◌, ◌≤◌, ◌≡◌, ◌≢◌, Bool, true, length, All, AllPairs}
use Rattle.std.specs.List.{Contains}
use Rattle.mb_word.specs.Fields.{isize_of, inode_block}
use Rattle.mb_tree.specs.Blocks.{pointers, IsFreeChain}
use Rattle.mb_tree.specs.Places.{Place, at, level, IsPlace}
use Rattle.mb_tree.specs.Volume.{IsOpenToFiles, LeadsOn}

-- no address leads to a block
abbrev pub IsBare : (ℕ → Bool) → (ℕ → List ℕ) → ℕ → Type 0
IsBare has blocks block = (q : Place) → IsPlace has q → at (pointers blocks) q ≢ block

-- no block twice
abbrev pub AreOnce : List ℕ → Type 0
AreOnce blocks = AllPairs (λ one other. one ≢ other) blocks

-- blocks that no inode holds: open to files, each once
pub record AreSpare (has : ℕ → Bool) (blocks : ℕ → List ℕ) (spare : List ℕ) : Type 0 where
  pub in_range : All (IsOpenToFiles blocks) spare
  pub once : AreOnce spare
  pub bare : All (IsBare has blocks) spare

-- blocks with those in hand (loose) beside the free chain; has says which inodes have addresses
pub record IsLaid (has : ℕ → Bool) (blocks : ℕ → List ℕ) (loose chain : List ℕ) : Type 0 where
  pub sized : (block : ℕ) → length (blocks block) ≡ 512
  pub wide : 3 ≤ isize_of (blocks 1)
  pub inodes : (ino : ℕ) → has ino ≡ true → (0 < ino) × (inode_block ino < isize_of (blocks 1))
  pub in_range : (q : Place) → IsPlace has q → 0 < at (pointers blocks) q → IsOpenToFiles blocks (at (pointers blocks) q)
  pub once : (q r : Place) → IsPlace has q → IsPlace has r → 0 < at (pointers blocks) q → at (pointers blocks) q ≡ at (pointers blocks) r → q ≡ r
  pub free : IsFreeChain blocks chain
  pub spare : AreSpare has blocks (loose ++ chain)

-- each index block that is held holds an address; on the way to a part this is broken until the part hangs
abbrev pub IndexesLeadOn : (ℕ → Bool) → (ℕ → List ℕ) → Type 0
IndexesLeadOn has blocks = (q : Place) → IsPlace has q → 0 < level q → 0 < at (pointers blocks) q → LeadsOn blocks (at (pointers blocks) q)

-- a block is accounted for: an address leads to it, or it is one of these spare ones
pub data IsHad (has : ℕ → Bool) (blocks : ℕ → List ℕ) (spare : List ℕ) (block : ℕ) : Type 0 where
  by_place : (q : Place) → IsPlace has q → at (pointers blocks) q ≡ block → IsHad has blocks spare block
  by_none : Contains spare block → IsHad has blocks spare block
