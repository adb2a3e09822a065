-- How many blocks are still to be gathered.
use Rattle.std.proofs.Common.{◌≡◌, ℕ, zero, suc, ◌+◌, ◌<◌, ◌≤◌, Bool, true, false, cond, inl, inr, refl, ap, sym, ◌∙◌, arith}
use Rattle.mb_run.specs.Served.{missing}
use Rattle.mb_run.proofs.Counting.{same_or_not}

abbrev lack : Bool → ℕ
lack b = cond b 0 1

pub missing_most : (shown : ℕ → Bool) (n : ℕ) → missing shown n ≤ n
unfolding missing
missing_most shown zero = omega arith
missing_most shown (suc n) =
    let one : cond (shown n) 0 1 ≤ 1 = elim (shown n) as (λ b. cond b 0 1 ≤ 1) [ true ↦ omega arith | false ↦ omega arith ] in
    let next : suc n ≡ n + 1 = omega arith in omega (arith, one, missing_most shown n, next)

one_less : (old new : Bool) → (old ≡ true → new ≡ true) → cond new 0 1 ≤ cond old 0 1
one_less true new keeps = rw (keeps refl) (omega arith)
one_less false new keeps = elim new as (λ b. cond b 0 1 ≤ 1) [ true ↦ omega arith | false ↦ omega arith ]

pub missing_less_or_same : (old new : ℕ → Bool) (n : ℕ) → ((block : ℕ) → old block ≡ true → new block ≡ true) → missing new n ≤ missing old n
unfolding missing
missing_less_or_same old new zero keeps = omega arith
missing_less_or_same old new (suc n) keeps = omega (arith, one_less (old n) (new n) (keeps n), missing_less_or_same old new n keeps)

pub missing_less : (old new : ℕ → Bool) (n block : ℕ) → ((block : ℕ) → old block ≡ true → new block ≡ true) → old block ≡ false → new block ≡ true → block < n → missing new n < missing old n
unfolding missing
missing_less old new zero block keeps lacks has low = absurd (omega arith)
missing_less old new (suc n) block keeps lacks has low = elim (same_or_not block n) [
  | inl same ↦ (let was : lack (old n) ≡ 1 = ap lack (ap old (sym same) ∙ lacks) in let is : lack (new n) ≡ 0 = ap lack (ap new (sym same) ∙ has) in
      omega (arith, was, is, missing_less_or_same old new n keeps))
  | inr apart ↦ (let below : block < n = omega arith in omega (arith, one_less (old n) (new n) (keeps n), missing_less old new n block keeps lacks has below))
]
