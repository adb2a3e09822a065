-- The inode to which a place belongs, and the blocks that one inode holds.
use Rattle.std.specs.Prelude.{List, ℕ, ◌<◌, ◌≡◌, Bool, ◌&&◌, not, nat_eq}
use Rattle.std.specs.List.{Contains}
use Rattle.mb_tree.specs.Blocks.{pointers}
use Rattle.mb_tree.specs.Cost.{most_parts}
use Rattle.mb_tree.specs.Places.{Place, Pointers, at, level, IsPlace, place_of}
use Rattle.mb_tree.specs.Places.Place.{Top, Under}
use Rattle.mb_blocks.specs.Laid.{AreOnce}

-- the inode below whose addresses a place stands
abbrev pub ino_of : Place → ℕ
ino_of (Top ino p) = ino
ino_of (Under above k) = ino_of above

-- all inodes with addresses but one
abbrev pub without : (ℕ → Bool) → ℕ → ℕ → Bool
without has ino other = has other && not (nat_eq other ino)

-- a list of the blocks that an inode holds, each once
pub record Enumerates (blocks : ℕ → List ℕ) (ino : ℕ) (held : List ℕ) : Type 0 where
  pub once : AreOnce held
  pub all : (q : Place) → IsPlace (nat_eq ino) q → 0 < at (pointers blocks) q → Contains held (at (pointers blocks) q)
  pub only : (block : ℕ) → Contains held block → (0 < block) × (q : Place) × IsPlace (nat_eq ino) q × (at (pointers blocks) q ≡ block)

-- an inode that holds these parts and no other, each at an address of its own, and whose index blocks lead on
pub record HoldsParts (ps : Pointers) (ino : ℕ) (parts : List ℕ) : Type 0 where
  pub once : AreOnce parts
  pub given : (k : ℕ) → Contains parts k → (k < most_parts) × (0 < at ps (place_of ino k))
  pub there : (k : ℕ) → k < most_parts → 0 < at ps (place_of ino k) → Contains parts k
  pub hole : (j : ℕ) → ps.entry 0 j ≡ 0
  pub leads : (q : Place) → IsPlace (nat_eq ino) q → 0 < level q → 0 < at ps q → (j : ℕ) × (j < 128) × (0 < ps.entry (at ps q) j)
  pub apart : (q r : Place) → IsPlace (nat_eq ino) q → IsPlace (nat_eq ino) r → 0 < at ps q → at ps q ≡ at ps r → q ≡ r
