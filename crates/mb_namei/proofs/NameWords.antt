-- Names compared by their first and last eight bytes.
use Rattle.std.proofs.Common.{ℕ, ◌≡◌, ◌+◌, ◌-◌, ◌<◌, ◌≤◌, inl, inr, Bool, true, false, nat_eq, List, length, take, drop, get_or, refl, sym, ap, subst, ◌∙◌, true≢false, arith}
use Rattle.std.specs.Int.{w64, from_le_bytes}
use Rattle.std.specs.Str.{bytes_eq}
use Rattle.std.proofs.Math.ListN.{get_or-eq_default}
use Rattle.std.proofs.lemmas.Bool.{cases_lt}
use Rattle.std.proofs.lemmas.Bool.Decides.{nat_tests}
use Rattle.std.proofs.lemmas.Nat.{le_bytes_8}
use Rattle.std.proofs.lemmas.Slice.Eq.{bytes_eq-Decides}
use Rattle.std.proofs.lemmas.List.{take_all}
use Rattle.mb_word.proofs.Parts.{get_or-part, length-part, part_is}
use Rattle.mb_namei.specs.Slots.{eight_of}

abbrev Small : List ℕ → Type 0
Small b = (k : ℕ) → get_or b k 0 < 256

small_part : (b : List ℕ) (at : ℕ) → at + 8 ≤ length b → Small b → Small (take 8 (drop at b))
small_part b at fits small k = elim (cases_lt k 8) [
  | inl low ↦ subst (λ n. n < 256) (sym (get_or-part b at 8 k low)) (small (at + k))
  | inr past ↦ subst (λ n. n < 256) (sym (get_or-eq_default (take 8 (drop at b)) 0 (let l = length-part b at 8 fits in omega (arith, l, past)))) (omega arith)
]

-- the same number is the same bytes
same_eight : (a b : List ℕ) (at from : ℕ) → at + 8 ≤ length a → from + 8 ≤ length b → Small a → Small b → eight_of a at ≡ eight_of b from → take 8 (drop at a) ≡ take 8 (drop from b)
unfolding eight_of
same_eight a b at from in_a in_b small_a small_b same =
    sym (le_bytes_8 (take 8 (drop at a)) (from_le_bytes w64 (take 8 (drop at a))) (length-part a at 8 in_a) (small_part a at in_a small_a) refl)
    ∙ le_bytes_8 (take 8 (drop from b)) (from_le_bytes w64 (take 8 (drop at a))) (length-part b from 8 in_b) (small_part b from in_b small_b) same

byte_same : (a b : List ℕ) (at from k : ℕ) → k < 8 → take 8 (drop at a) ≡ take 8 (drop from b) → get_or a (at + k) 0 ≡ get_or b (from + k) 0
byte_same a b at from k low same = sym (get_or-part a at 8 k low) ∙ ap (λ l. get_or l k 0) same ∙ get_or-part b from 8 k low

-- the first and the last eight of fourteen bytes
same_name : (b name : List ℕ) (at : ℕ) → at + 14 ≤ length b → length name ≡ 14 → Small b → Small name → eight_of b at ≡ eight_of name 0 → eight_of b (at + 6) ≡ eight_of name 6 → take 14 (drop at b) ≡ name
same_name b name at fits sized small_b small_name front back =
    let first = same_eight b name at 0 (omega arith) (omega arith) small_b small_name front in
    let last = same_eight b name (at + 6) 6 (omega arith) (omega arith) small_b small_name back in
    part_is b name at 0 14 fits (omega arith) (λ k low. elim (cases_lt k 8) [
      | inl early ↦ byte_same b name at 0 k early first
      | inr late ↦
          let e : at + 6 + (k - 6) ≡ at + k = omega (arith, late) in
          let f : 6 + (k - 6) ≡ 0 + k = omega (arith, late) in
          sym (ap (λ i. get_or b i 0) e) ∙ byte_same b name (at + 6) 6 (k - 6) (omega (arith, low)) last ∙ ap (λ i. get_or name i 0) f
    ])
    ∙ take_all 14 name (omega arith)

same_bool : (p q : Bool) → (p ≡ true → q ≡ true) → (q ≡ true → p ≡ true) → p ≡ q
same_bool true q to from = sym (to refl)
same_bool false true to from = from refl
same_bool false false to from = refl

-- and a name has them
eight_in : (b name : List ℕ) (at from : ℕ) → at + 14 ≤ length b → length name ≡ 14 → from + 8 ≤ 14 → take 14 (drop at b) ≡ name → eight_of b (at + from) ≡ eight_of name from
unfolding eight_of
eight_in b name at from fits sized few same =
    ap (from_le_bytes w64) (part_is b name (at + from) from 8 (omega arith) (omega arith) (λ k low.
    (let e : at + from + k ≡ at + (from + k) = omega arith in
    ap (λ i. get_or b i 0) e ∙ sym (get_or-part b at 14 (from + k) (omega arith)) ∙ ap (λ l. get_or l (from + k) 0) same)))

module _ (b name : List ℕ) (at : ℕ) (fits : at + 14 ≤ length b) (sized : length name ≡ 14) where
  -- where the first eight bytes are others, the names are
  pub by_front : (e front : ℕ) → e ≡ eight_of b at → front ≡ eight_of name 0 → nat_eq e front ≡ false → nat_eq e front ≡ bytes_eq (take 14 (drop at b)) name
  by_front e front is_e is_front apart = same_bool (nat_eq e front) (bytes_eq (take 14 (drop at b)) name)
      (λ yes. absurd (true≢false (sym yes ∙ apart)))
      (λ yes.
      let same = (bytes_eq-Decides (take 14 (drop at b)) name).0 yes in
      let here : eight_of b at ≡ eight_of b (at + 0) = ap (eight_of b) (omega arith) in
      let equal : e ≡ front = is_e ∙ here ∙ eight_in b name at 0 fits sized (omega arith) same ∙ sym is_front in
      grind (arith, nat_tests))

  -- where they are the same, the last eight decide
  pub by_back : Small b → Small name → (f g back next : ℕ) → f ≡ eight_of b at → f ≡ g → g ≡ eight_of name 0 → next ≡ at + 6 → (e : ℕ) → e ≡ eight_of b next → back ≡ eight_of name 6 → nat_eq e back ≡ bytes_eq (take 14 (drop at b)) name
  by_back small_b small_name f g back next is_f alike is_g is_next e is_e is_back =
      let there : e ≡ eight_of b (at + 6) = is_e ∙ ap (eight_of b) is_next in
      same_bool (nat_eq e back) (bytes_eq (take 14 (drop at b)) name)
      (λ yes.
      let equal : e ≡ back = grind (arith, nat_tests) in
      (bytes_eq-Decides (take 14 (drop at b)) name).1 (same_name b name at fits sized small_b small_name (sym is_f ∙ alike ∙ is_g) (sym there ∙ equal ∙ is_back)))
      (λ yes.
      let same = (bytes_eq-Decides (take 14 (drop at b)) name).0 yes in
      let equal : e ≡ back = there ∙ eight_in b name at 6 fits sized (omega arith) same ∙ sym is_back in
      grind (arith, nat_tests))
