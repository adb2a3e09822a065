-- Writes that leave addresses, and what they lead to, as they are.
use Rattle.std.specs.Prelude.{List, ℕ, ◌<◌, ◌≡◌, Bool, true}
use Rattle.mb_tree.specs.Blocks.{pointers}
use Rattle.mb_tree.specs.Places.{Place, Pointers, at, level, IsPlace}

-- the addresses of the inodes, and the index blocks to which some lead
pub record KeepsPointers (has : ℕ → Bool) (old new : ℕ → List ℕ) : Type 0 where
  pub tops : (ino p : ℕ) → has ino ≡ true → p < 13 → (pointers new).top ino p ≡ (pointers old).top ino p
  pub indexes : (q : Place) → IsPlace has q → 0 < level q → 0 < at (pointers old) q → new (at (pointers old) q) ≡ old (at (pointers old) q)

-- all that the inodes hold, their parts too
pub record KeepsHeld (has : ℕ → Bool) (old new : ℕ → List ℕ) : Type 0 where
  pub tops : (ino p : ℕ) → has ino ≡ true → p < 13 → (pointers new).top ino p ≡ (pointers old).top ino p
  pub blocks : (q : Place) → IsPlace has q → 0 < at (pointers old) q → new (at (pointers old) q) ≡ old (at (pointers old) q)

-- an address set at a place, and every other as before
pub record Hangs (has : ℕ → Bool) (old new : Pointers) (r : Place) (value : ℕ) : Type 0 where
  pub here : at new r ≡ value
  pub others : (q : Place) → IsPlace has q → (q ≡ r → ⊥) → at new q ≡ at old q
