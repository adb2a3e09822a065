-- What holds once a block hangs at a place, and once the whole way to a place is made.
use Rattle.std.specs.Prelude.{List, ◌∷◌, ◌++◌, ℕ, ◌+◌, ◌<◌, ◌≤◌, ◌≡◌, ◌⊎◌, Bool, length}
use Rattle.mb_kinds.specs.Image.{zeros}
use Rattle.mb_word.specs.Fields.{isize_of}
use Rattle.mb_tree.specs.Blocks.{pointers}
use Rattle.mb_tree.specs.Places.{Place, at, IsPlace}
use Rattle.mb_tree.specs.Places.Place.{Top, Under}
use Rattle.mb_blocks.specs.Laid.{IsLaid, IsHad}
use Rattle.mb_blocks.specs.Conserved.{Conserves}
use Rattle.mb_blocks.specs.Growing.{missing}
use Rattle.mb_blocks.specs.Inodes.{KeepsFields}
use Rattle.mb_blocks.specs.Owners.{ino_of}

-- a place stands on the way to another, or is it
abbrev pub IsOnWay : Place → Place → Type 0
IsOnWay r (Top ino p) = Top ino p ≡ r
IsOnWay r (Under above k) = (Under above k ≡ r) ⊎ IsOnWay r above

-- a place stands above another on its way
abbrev pub IsAbove : Place → Place → Type 0
IsAbove r (Top ino p) = ⊥
IsAbove r (Under above k) = IsOnWay r above

-- a place stands right above another
abbrev pub IsParent : Place → Place → Type 0
IsParent q (Top ino p) = ⊥
IsParent q (Under above k) = above ≡ q

-- the index block in which a place's address stands is held
abbrev pub HasIndexAbove : (ℕ → List ℕ) → Place → Type 0
HasIndexAbove blocks (Top ino p) = Unit {0}
HasIndexAbove blocks (Under above k) = 0 < at (pointers blocks) above

-- after a block in hand was hung at a place that was a hole
pub record HasHung (has : ℕ → Bool) (old new : ℕ → List ℕ) (r : Place) (block : ℕ) (loose chain : List ℕ) : Type 0 where
  pub laid : IsLaid has new loose chain
  pub here : at (pointers new) r ≡ block
  pub either : (q : Place) → IsPlace has q → (q ≡ r) ⊎ (at (pointers new) q ≡ at (pointers old) q)
  pub bytes : (q : Place) → IsPlace has q → 0 < at (pointers old) q → (IsParent q r → ⊥) → new (at (pointers old) q) ≡ old (at (pointers old) q)
  pub fresh : new block ≡ old block
  pub off : (other : ℕ) → isize_of (old 1) ≤ other → (IsHad has old (block ∷ (loose ++ chain)) other → ⊥) → new other ≡ old other
  pub boot : new 0 ≡ old 0
  pub keeps : KeepsFields old new (ino_of r)

-- after the way to a place was made: left is the chain without the blocks that were missing
pub record HasReached (has : ℕ → Bool) (old new : ℕ → List ℕ) (loose chain : List ℕ) (q : Place) : Type 0 where
  pub left : List ℕ
  pub laid : IsLaid has new loose left
  pub count : length chain ≡ length left + missing (pointers old) q
  pub here : 0 < at (pointers new) q
  pub same : (r : Place) → IsPlace has r → 0 < at (pointers old) r → at (pointers new) r ≡ at (pointers old) r
  pub off : (r : Place) → IsPlace has r → (IsOnWay r q → ⊥) → at (pointers new) r ≡ at (pointers old) r
  pub bytes : (r : Place) → IsPlace has r → 0 < at (pointers old) r → (IsAbove r q → ⊥) → new (at (pointers old) r) ≡ old (at (pointers old) r)
  pub fresh : at (pointers old) q ≡ 0 → new (at (pointers new) q) ≡ zeros
  pub keeps : KeepsFields old new (ino_of q)
  pub conserves : Conserves has has old new (loose ++ chain) (loose ++ left)
