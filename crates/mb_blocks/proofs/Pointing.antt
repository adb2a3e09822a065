-- Writes that set no address of the inodes that count: their addresses, their index blocks and parts stay.
use Rattle.std.proofs.Common.{ℕ, zero, suc, ◌≡◌, inl, inr, ◌<◌, Bool, true, false, cond, nat_lt, List, Some, None, refl, sym, ap, ◌∙◌, arith}
use Rattle.std.proofs.lemmas.Bool.{cases_lt}
use Rattle.std.proofs.lemmas.Bool.Decides.{nat_tests}
use Rattle.mb_word.specs.Fields.{index_entry}
use Rattle.mb_tree.specs.Blocks.{entry_in, pointers, bytes_at, part_in}
use Rattle.mb_tree.specs.Cost.{most_parts}
use Rattle.mb_tree.specs.Places.{Place, at, IsPlace, place_of}
use Rattle.mb_tree.specs.Places.Place.{Top, Under}
use Rattle.mb_blocks.specs.Pointing.{KeepsHeld, KeepsPointers}
use Rattle.mb_blocks.proofs.PartPlaces.{place_is}

pub entry_same : (old new : ℕ → List ℕ) (block place : ℕ) → (0 < block → new block ≡ old block) → entry_in new block place ≡ entry_in old block place
unfolding entry_in
entry_same old new zero place same = refl
entry_same old new (suc block) place same = ap (λ bytes. index_entry bytes place) (same (omega arith))

pub zero_entry : (blocks : ℕ → List ℕ) (place : ℕ) → entry_in blocks 0 place ≡ 0
unfolding entry_in
zero_entry blocks place = refl

pub at_alike : (has : ℕ → Bool) (old new : ℕ → List ℕ) → KeepsPointers has old new → (q : Place) → IsPlace has q → at (pointers new) q ≡ at (pointers old) q
at_alike has old new keeps (Top ino p) h = keeps.tops ino p h.0 h.1
at_alike has old new keeps (Under q k) h =
    ap (λ b. entry_in new b k) (at_alike has old new keeps q h.0)
    ∙ entry_same old new (at (pointers old) q) k (keeps.indexes q h.0 h.1)

pub its_pointers : (has : ℕ → Bool) (old new : ℕ → List ℕ) → KeepsHeld has old new → KeepsPointers has old new
its_pointers has old new keeps = record { tops = keeps.tops; indexes = λ q h up some. keeps.blocks q h some }

pub held_same : (has : ℕ → Bool) (blocks : ℕ → List ℕ) → KeepsHeld has blocks blocks
held_same has blocks = record { tops = λ ino p h low. refl; blocks = λ q h some. refl }

pub held_then : (has : ℕ → Bool) (old mid new : ℕ → List ℕ) → KeepsHeld has old mid → KeepsHeld has mid new → KeepsHeld has old new
held_then has old mid new one two = record {
  tops = λ ino p h low. two.tops ino p h low ∙ one.tops ino p h low;
  blocks = λ q h some.
      (let e = at_alike has old mid (its_pointers has old mid one) q h in
      ap new (sym e) ∙ two.blocks q h (omega (arith, some, e)) ∙ ap mid e ∙ one.blocks q h some);
}

bytes_same : (old new : ℕ → List ℕ) (block : ℕ) → (0 < block → new block ≡ old block) → bytes_at new block ≡ bytes_at old block
bytes_same old new zero same = refl
bytes_same old new (suc block) same = ap (λ bytes. Some bytes) (same (omega arith))

pub part_kept : (has : ℕ → Bool) (old new : ℕ → List ℕ) → KeepsHeld has old new → (ino part : ℕ) → has ino ≡ true → part_in new ino part ≡ part_in old ino part
unfolding part_in
part_kept has old new keeps ino part is = elim (cases_lt part most_parts) [
  | inl below ↦
      let h = place_is has ino part is below in
      ap (λ found. cond (nat_lt part most_parts) found None)
      (ap (bytes_at new) (at_alike has old new (its_pointers has old new keeps) (place_of ino part) h) ∙ bytes_same old new (at (pointers old) (place_of ino part)) (keeps.blocks (place_of ino part) h))
  | inr past ↦ let t : nat_lt part most_parts ≡ false = grind (arith, nat_tests) in rw t refl
]
