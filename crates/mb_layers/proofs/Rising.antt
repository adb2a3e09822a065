-- Generations that were dropped one after another.
use Rattle.std.proofs.Common.{◌≡◌, ◌∙◌, ℕ, ◌+◌, ◌<◌, ◌≤◌, suc, zero, List, [], ◌∷◌, ◌++◌, ◌⊎◌, inl, inr, Bool, true, false, ◌||◌, Result, Ok, Err, length, nat_eq, slice_index_or, refl, ap, sym, arith}
use Rattle.std.proofs.lemmas.Bool.Decides.{nat_tests}
use Rattle.std.proofs.lemmas.List.{get_or_append_left, get_or_push, length_push}
use Rattle.std.proofs.lemmas.List.Sorted.{searched}
use Rattle.std.specs.List.{list_any}
use Rattle.std.specs.List.Sorted.{IsBinarySearchResult}
use Rattle.std.specs.Ordering.{nat_cmp}
use Rattle.std.specs.Result.{is_ok}
use Rattle.mb_layers.specs.Tokens.{AreRising}

split : (k place : ℕ) → (k < place) ⊎ (place ≤ k)
split k place = grind arith

any_at : (numbers : List ℕ) (number place : ℕ) → place < length numbers → slice_index_or numbers place 0 ≡ number → list_any (λ one. nat_eq one number) numbers ≡ true
any_at [] number place less is = absurd (omega (arith, less))
any_at (n ∷ numbers) number zero less is = let here : nat_eq n number ≡ true = grind (arith, nat_tests, is) in ap (λ b. b || list_any (λ one. nat_eq one number) numbers) here
any_at (n ∷ numbers) number (suc place) less is = or_true (nat_eq n number) (any_at numbers number place (omega (arith, less)) is)
  where
    or_true : (b : Bool) {c : Bool} → c ≡ true → (b || c) ≡ true
    or_true true is = refl
    or_true false is = is

none_at : (numbers : List ℕ) (number : ℕ) → ((place : ℕ) → place < length numbers → nat_eq (slice_index_or numbers place 0) number ≡ false) → list_any (λ one. nat_eq one number) numbers ≡ false
none_at [] number apart = refl
none_at (n ∷ numbers) number apart = ap (λ b. b || list_any (λ one. nat_eq one number) numbers) (apart 0 (omega arith)) ∙ none_at numbers number (λ place less. apart (suc place) (omega (arith, less)))

-- a search by halves finds a number exactly where it is among them
pub found_by_halves : (numbers : List ℕ) (bound number : ℕ) (result : Result ℕ ℕ) → AreRising numbers bound → IsBinarySearchResult (λ one. nat_cmp one number) numbers result → is_ok result ≡ list_any (λ one. nat_eq one number) numbers
found_by_halves numbers bound number (Ok place) rising found =
    let here = searched numbers number (Ok place) found rising.ordered in
    sym (any_at numbers number place here.0 here.1)
found_by_halves numbers bound number (Err place) rising found =
    let there = searched numbers number (Err place) found rising.ordered in
    sym (none_at numbers number (λ k less. apart k less there))
  where
    apart : (k : ℕ) → k < length numbers → ((place ≤ length numbers) × ((k : ℕ) → k < place → slice_index_or numbers k 0 < number) × ((k : ℕ) → place ≤ k → k < length numbers → number < slice_index_or numbers k 0))
        → nat_eq (slice_index_or numbers k 0) number ≡ false
    apart k less there = elim (split k place) [
      | inl before ↦ (let low = there.1 k before in grind (arith, nat_tests, low))
      | inr behind ↦ (let high = there.2 k behind less in grind (arith, nat_tests, high))
    ]

-- the present generation is dropped, and the next one begins
module _ (numbers : List ℕ) (present : ℕ) (rising : AreRising numbers present) where
  abbrev pushed : List ℕ
  pushed = numbers ++ present ∷ []

  here : (i : ℕ) → i < length numbers → slice_index_or pushed i 0 ≡ slice_index_or numbers i 0
  here i less = get_or_append_left numbers (present ∷ []) 0 i less

  last : (i : ℕ) → length numbers ≤ i → i < length pushed → slice_index_or pushed i 0 ≡ present
  last i behind less = let long : length pushed ≡ length numbers + 1 = length_push numbers present in get_or_push numbers present 0 i (omega (arith, behind, less, long))

  at_most : (i : ℕ) → i < length pushed → slice_index_or pushed i 0 ≤ present
  at_most i less = elim (split i (length numbers)) [
    | inl before ↦ (let same = here i before in let low = rising.below i before in omega (arith, same, low))
    | inr behind ↦ (let same = last i behind less in omega (arith, same))
  ]

  ordered : (i j : ℕ) → i ≤ j → j < length pushed → slice_index_or pushed i 0 ≤ slice_index_or pushed j 0
  ordered i j upto less = elim (split j (length numbers)) [
    | inl before ↦ (let one = here i (omega (arith, upto, before)) in let other = here j before in let low = rising.ordered i j upto before in omega (arith, one, other, low))
    | inr behind ↦ (let one = at_most i (omega (arith, upto, less)) in let other = last j behind less in omega (arith, one, other))
  ]

  pub rises_on : AreRising (numbers ++ present ∷ []) (present + 1)
  rises_on = record { ordered = ordered; below = λ i less. (let most = at_most i less in omega (arith, most)) }
