-- The places of parts: one for each part, without levels below.
use Rattle.std.proofs.Common.{ℕ, ◌≡◌, ◌+◌, ◌*◌, ◌<◌, inl, inr, Bool, true, false, nat_lt, refl, sym, ap, ◌∙◌, arith}
use Rattle.std.proofs.lemmas.Bool.{cases_lt}
use Rattle.std.proofs.lemmas.Bool.Decides.{nat_tests}
use Rattle.mb_tree.specs.Cost.{most_parts}
use Rattle.mb_tree.specs.Places.{Place, level, IsPlace, place_of}
use Rattle.mb_tree.specs.Places.Place.{Top, Under}
use Rattle.mb_blocks.specs.Owners.{ino_of}

abbrev pub part_of : Place → ℕ
part_of (Top ino p) = p
part_of (Under (Top ino p) k) = 10 + k
part_of (Under (Under (Top ino p) a) k) = 138 + 128 * a + k
part_of (Under (Under (Under q a) b) k) = 16522 + 16384 * a + 128 * b + k

pub record IsPartPlace (ino part : ℕ) (q : Place) : Type 0 where
  pub owner : ino_of q ≡ ino
  pub back : part_of q ≡ part
  pub bottom : level q ≡ 0

pub part_place : (ino part : ℕ) → part < most_parts → IsPartPlace ino part (place_of ino part)
unfolding place_of
part_place ino part below = elim (cases_lt part 10) [
  | inl direct ↦
      let a : nat_lt part 10 ≡ true = grind (arith, nat_tests) in
      rw a (record { owner = refl; back = refl; bottom = omega arith })
  | inr past ↦
      let a : nat_lt part 10 ≡ false = grind (arith, nat_tests) in
      rw a (elim (cases_lt part 138) [
        | inl single ↦
            let b : nat_lt part 138 ≡ true = grind (arith, nat_tests) in
            rw b (record { owner = refl; back = omega arith; bottom = omega arith })
        | inr further ↦
            let b : nat_lt part 138 ≡ false = grind (arith, nat_tests) in
            rw b (elim (cases_lt part 16522) [
              | inl double ↦
                  let c : nat_lt part 16522 ≡ true = grind (arith, nat_tests) in
                  rw c (record { owner = refl; back = omega arith; bottom = omega arith })
              | inr last ↦
                  let c : nat_lt part 16522 ≡ false = grind (arith, nat_tests) in
                  rw c (record { owner = refl; back = omega arith; bottom = omega arith })
            ])
      ])
]

pub place_once : (ino part other twin : ℕ) → part < most_parts → twin < most_parts → place_of ino part ≡ place_of other twin → (ino ≡ other) × (part ≡ twin)
place_once ino part other twin below low e =
    let one = part_place ino part below in
    let two = part_place other twin low in
    (sym one.owner ∙ ap ino_of e ∙ two.owner, sym one.back ∙ ap part_of e ∙ two.back)

-- the part of a file stands at one of its places
pub place_is : (has : ℕ → Bool) (ino part : ℕ) → has ino ≡ true → part < most_parts → IsPlace has (place_of ino part)
unfolding place_of
place_is has ino part is below = elim (cases_lt part 10) [
  | inl direct ↦
      let e : nat_lt part 10 ≡ true = grind (arith, nat_tests) in
      rw e (is, omega arith)
  | inr past ↦
      let e : nat_lt part 10 ≡ false = grind (arith, nat_tests) in
      rw e (elim (cases_lt part 138) [
        | inl single ↦
            let f : nat_lt part 138 ≡ true = grind (arith, nat_tests) in
            rw f ((is, omega arith), omega arith, omega arith)
        | inr further ↦
            let f : nat_lt part 138 ≡ false = grind (arith, nat_tests) in
            rw f (elim (cases_lt part 16522) [
              | inl double ↦
                  let g : nat_lt part 16522 ≡ true = grind (arith, nat_tests) in
                  rw g (((is, omega arith), omega arith, omega arith), omega arith, omega arith)
              | inr last ↦
                  let g : nat_lt part 16522 ≡ false = grind (arith, nat_tests) in
                  rw g ((((is, omega arith), omega arith, omega arith), omega arith, omega arith), omega arith, omega arith)
            ])
      ])
]
