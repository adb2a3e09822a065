-- Lists of slots where one slot is put in the place of another, or after the last.
use Rattle.std.proofs.Common.{◌≡◌, ◌≢◌, ℕ, zero, suc, ◌+◌, ◌<◌, ◌≤◌, Bool, true, false, cond, List, [], ◌∷◌, ◌++◌, length, drop, Option, Some, None, get_or, refl, sym, ap, ◌∙◌, arith, nat_lt}
use Rattle.std.specs.Prelude.{count_by, slice_get, slice_set, position, find}
use Rattle.std.proofs.lemmas.Bool.Decides.{nat_tests}
use Rattle.std.proofs.lemmas.List.Sums.{sum_by-cons, sum_by-set, sum_by_push, passes_at_first}
use Rattle.std.proofs.lemmas.List.Folds.{find_at}
use Rattle.std.proofs.lemmas.Option.{none-some, slice_get-get_or, slice_get_within, get_or_from_slice_get}
use Rattle.std.specs.List.{position_or_len}

-- 1 where there is a value that passes
abbrev pub weight : {X : Type 0} → (X → Bool) → Option X → ℕ
weight p None = 0
weight p (Some x) = cond (p x) 1 0

module _ {X : Type 0} where
  pub set_here : (xs : List X) (at : ℕ) (y : X) → at < length xs → slice_get (slice_set xs at y) at ≡ Some y
  set_here [] at y low = absurd (omega arith)
  set_here (x ∷ xs) zero y low = refl
  set_here (x ∷ xs) (suc at) y low = set_here xs at y (omega arith)

  pub set_there : (xs : List X) (at : ℕ) (y : X) (k : ℕ) → k ≢ at → slice_get (slice_set xs at y) k ≡ slice_get xs k
  set_there [] at y k apart = refl
  set_there (x ∷ xs) zero y zero apart = absurd (apart refl)
  set_there (x ∷ xs) zero y (suc k) apart = refl
  set_there (x ∷ xs) (suc at) y zero apart = refl
  set_there (x ∷ xs) (suc at) y (suc k) apart = set_there xs at y k (λ e. apart (ap (λ n. suc n) e))

  pub push_here : (xs : List X) (y : X) → slice_get (xs ++ y ∷ []) (length xs) ≡ Some y
  push_here [] y = refl
  push_here (x ∷ xs) y = push_here xs y

  pub push_there : (xs : List X) (y : X) (k : ℕ) → k ≢ length xs → slice_get (xs ++ y ∷ []) k ≡ slice_get xs k
  push_there [] y zero apart = absurd (apart refl)
  push_there [] y (suc k) apart = refl
  push_there (x ∷ xs) y zero apart = refl
  push_there (x ∷ xs) y (suc k) apart = push_there xs y k (λ e. apart (ap (λ n. suc n) e))

  count_cons : (p : X → Bool) (x : X) (xs : List X) → count_by p (x ∷ xs) ≡ weight p (Some x) + count_by p xs
  count_cons p x xs = sum_by-cons (λ y. cond {A = ℕ} (p y) 1 0) x xs

  pub count_set : (p : X → Bool) (xs : List X) (at : ℕ) (y : X) → at < length xs → count_by p (slice_set xs at y) + weight p (slice_get xs at) ≡ count_by p xs + weight p (Some y)
  count_set p xs at y low = omega (arith, sum_by-set (λ x. cond {A = ℕ} (p x) 1 0) xs at y y low, ap (weight p) (slice_get-get_or xs at y low))

  pub count_push : (p : X → Bool) (xs : List X) (y : X) → count_by p (xs ++ y ∷ []) ≡ count_by p xs + weight p (Some y)
  count_push p xs y = sum_by_push (λ x. cond {A = ℕ} (p x) 1 0) xs y

  -- one element more skipped
  pub count_drop : (p : X → Bool) (skip : ℕ) (xs : List X) → count_by p (drop skip xs) ≡ weight p (slice_get xs skip) + count_by p (drop (suc skip) xs)
  count_drop p zero [] = refl
  count_drop p (suc skip) [] = refl
  count_drop p zero (x ∷ xs) = omega (arith, count_cons p x xs)
  count_drop p (suc skip) (x ∷ xs) = count_drop p skip xs

  -- the first two, and the later ones
  pub count_late : (p : X → Bool) (xs : List X) → 2 ≤ length xs → count_by p xs ≡ weight p (slice_get xs 0) + weight p (slice_get xs 1) + count_by p (drop 2 xs)
  count_late p [] long = absurd (omega arith)
  count_late p (x ∷ []) long = absurd (omega arith)
  count_late p (x ∷ y ∷ xs) long = omega (arith, count_cons p x (y ∷ xs), count_cons p y xs)

  -- an element that passes is counted among those after the first skip, where it is one
  pub count_some : (p : X → Bool) (skip : ℕ) (xs : List X) (at : ℕ) → skip ≤ at → weight p (slice_get xs at) ≤ count_by p (drop skip xs)
  count_some p zero [] at past = omega arith
  count_some p (suc skip) [] at past = omega arith
  count_some p zero (x ∷ xs) zero past = omega (arith, count_cons p x xs)
  count_some p zero (x ∷ xs) (suc at) past = omega (arith, count_cons p x xs, count_some p zero xs at (omega arith))
  count_some p (suc skip) (x ∷ xs) zero past = absurd (omega arith)
  count_some p (suc skip) (x ∷ xs) (suc at) past = count_some p skip xs at (omega arith)

  -- what fails everywhere after the first skip is not counted there
  pub count_none : (p : X → Bool) (skip : ℕ) (xs : List X) → ((at : ℕ) (x : X) → skip ≤ at → slice_get xs at ≡ Some x → p x ≡ false) → count_by p (drop skip xs) ≡ 0
  count_none p zero [] fails = refl
  count_none p (suc skip) [] fails = refl
  count_none p zero (x ∷ xs) fails =
      let one : weight p (Some x) ≡ 0 = ap (λ b. cond {A = ℕ} b 1 0) (fails 0 x (omega arith) refl) in
      omega (arith, count_cons p x xs, one, count_none p zero xs (λ at y past has. fails (suc at) y (omega arith) has))
  count_none p (suc skip) (x ∷ xs) fails = count_none p skip xs (λ at y past has. fails (suc at) y (omega arith) has)

  -- what fails
  pub weight_none : (p : X → Bool) (o : Option X) → ((x : X) → o ≡ Some x → p x ≡ false) → weight p o ≡ 0
  weight_none p None fails = refl
  weight_none p (Some x) fails = ap (λ b. cond {A = ℕ} b 1 0) (fails x refl)

  pub weight_one : (p : X → Bool) (o : Option X) (x : X) → o ≡ Some x → p x ≡ true → weight p o ≡ 1
  weight_one p o x is passes = ap (weight p) is ∙ ap (λ b. cond {A = ℕ} b 1 0) passes

  -- what a search finds stands at its position
  pub found : (p : X → Bool) (xs : List X) (x : X) → find p xs ≡ Some x → (at : ℕ) × (position p xs ≡ Some at) × (slice_get xs at ≡ Some x) × (p x ≡ true)
  found p xs x h =
      let has : slice_get xs (position_or_len p xs) ≡ Some x = sym (find_at p xs) ∙ h in
      let low = slice_get_within xs (position_or_len p xs) x has in
      let test : nat_lt (position_or_len p xs) (length xs) ≡ true = grind (arith, nat_tests) in
      let passes : p (get_or xs (position_or_len p xs) x) ≡ true = passes_at_first p xs x low in
      (position_or_len p xs, ap (λ b. cond b (Some (position_or_len p xs)) None) test, has, sym (ap p (get_or_from_slice_get xs (position_or_len p xs) x x has)) ∙ passes)

  -- what a search misses fails everywhere
  pub missed : (p : X → Bool) (xs : List X) (at : ℕ) (x : X) → find p xs ≡ None → slice_get xs at ≡ Some x → p x ≡ false
  missed p [] at x h has = cc
  missed p (y ∷ ys) zero x h has = elim (p y) as (λ b. p y ≡ b → cond b (Some y) (find p ys) ≡ None → p x ≡ false) [
    | true ↦ λ e none. absurd (none-some y (sym none))
    | false ↦ λ e none. let is : y ≡ x = cc in sym (ap p is) ∙ e
  ] refl h
  missed p (y ∷ ys) (suc at) x h has = elim (p y) as (λ b. cond b (Some y) (find p ys) ≡ None → p x ≡ false) [
    | true ↦ λ none. absurd (none-some y (sym none))
    | false ↦ λ none. missed p ys at x none has
  ] h
