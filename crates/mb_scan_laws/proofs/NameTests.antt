-- The tests of rule 12 on one name say that it is a name.
use Rattle.std.proofs.Common.{◌≡◌, ◌≢◌, ℕ, zero, suc, ◌<◌, ◌≤◌, List, [], ◌∷◌, Bool, true, false, not, ◌&&◌, ◌||◌, nat_eq, if◌then◌else◌, length, slice_index, refl, ap, ◌∙◌, arith}
use Rattle.std.specs.List.{list_any, list_all}
use Rattle.std.proofs.lemmas.Bool.Decides.{nat_tests}
use Rattle.mb_tree.specs.Lookup.{slash}
use Rattle.mb_tree.specs.Trees.{IsName}
use Rattle.mb_rules.specs.Slots.{is_padded}
use Rattle.mb_rules.proofs.Walks.{both, neither}

-- ---- no byte of a list is v

none_of : (v : ℕ) (xs : List ℕ) → list_any (nat_eq v) xs ≡ false → (k : ℕ) → k < length xs → slice_index xs k ≢ v
none_of v [] h k low = absurd (omega (arith, low))
none_of v (x ∷ xs) h zero low = λ e. (let two = neither (nat_eq v x) (list_any (nat_eq v) xs) h in let off = two.0 in let t : nat_eq v x ≡ true = grind (arith, nat_tests) in cc)
none_of v (x ∷ xs) h (suc k) low = none_of v xs (neither (nat_eq v x) (list_any (nat_eq v) xs) h).1 k (omega (arith, low))

of_none : (v : ℕ) (xs : List ℕ) → ((k : ℕ) → k < length xs → slice_index xs k ≢ v) → list_any (nat_eq v) xs ≡ false
of_none v [] each = refl
of_none v (x ∷ xs) each =
    let apart : x ≢ v = each 0 (omega arith) in
    let off : nat_eq v x ≡ false = grind (arith, nat_tests) in
    ap (λ b. b || list_any (nat_eq v) xs) off ∙ of_none v xs (λ k low. each (suc k) (omega (arith, low)))

-- ---- zeros, and what is padded with them

zeros_in : (xs : List ℕ) → list_all (nat_eq 0) xs ≡ true → (k : ℕ) → slice_index xs k ≡ 0
zeros_in [] h k = refl
zeros_in (x ∷ xs) h zero = (let two = both (nat_eq 0 x) (list_all (nat_eq 0) xs) h in let t = two.0 in let e : x ≡ 0 = grind (arith, nat_tests) in e)
zeros_in (x ∷ xs) h (suc k) = zeros_in xs (both (nat_eq 0 x) (list_all (nat_eq 0) xs) h).1 k

in_zeros : (xs : List ℕ) → ((k : ℕ) → slice_index xs k ≡ 0) → list_all (nat_eq 0) xs ≡ true
in_zeros [] each = refl
in_zeros (x ∷ xs) each =
    let e : x ≡ 0 = each 0 in
    let t : nat_eq 0 x ≡ true = ap (nat_eq 0) e in
    ap (λ b. b && list_all (nat_eq 0) xs) t ∙ in_zeros xs (λ k. each (suc k))

abbrev padded_by : Bool → List ℕ → Bool
padded_by stop xs = if stop then list_all (nat_eq 0) xs else is_padded xs

abbrev IsPadded : List ℕ → Type 0
IsPadded xs = (at later : ℕ) → at ≤ later → slice_index xs at ≡ 0 → slice_index xs later ≡ 0

stopped : (x : ℕ) (xs : List ℕ) (k : ℕ) → nat_eq x 0 ≡ true → list_all (nat_eq 0) xs ≡ true → slice_index (x ∷ xs) k ≡ 0
stopped x xs zero t rest = (let is : x ≡ 0 = grind (arith, nat_tests) in is)
stopped x xs (suc k) t rest = zeros_in xs rest k

further : (x : ℕ) (xs : List ℕ) (a b : ℕ) → IsPadded xs → a ≤ b → slice_index (x ∷ xs) a ≡ 0 → nat_eq x 0 ≡ false → slice_index (x ∷ xs) b ≡ 0
further x xs zero b padded less is f = absurd (let t : nat_eq x 0 ≡ true = ap (λ n. nat_eq n 0) is in cc)
further x xs (suc a) zero padded less is f = absurd (omega (arith, less))
further x xs (suc a) (suc b) padded less is f = padded a b (omega (arith, less)) is

padded_from : (xs : List ℕ) → is_padded xs ≡ true → IsPadded xs
padded_from [] h = λ at later low e. refl
padded_from (x ∷ xs) h = λ at later low e.
    elim (nat_eq x 0) as (λ b. nat_eq x 0 ≡ b → padded_by b xs ≡ true → slice_index (x ∷ xs) later ≡ 0) [
      | true ↦ λ t rest. stopped x xs later t rest
      | false ↦ λ f rest. further x xs at later (padded_from xs rest) low e f
    ] refl h

from_padded : (xs : List ℕ) → IsPadded xs → is_padded xs ≡ true
from_padded [] each = refl
from_padded (x ∷ xs) each =
    elim (nat_eq x 0) as (λ b. nat_eq x 0 ≡ b → padded_by b xs ≡ true) [
      | true ↦ λ t. (let is : x ≡ 0 = grind (arith, nat_tests) in in_zeros xs (λ k. each 0 (suc k) (omega arith) is))
      | false ↦ λ f. from_padded xs (λ at later low e. each (suc at) (suc later) (omega (arith, low)) e)
    ] refl

-- ---- a name

abbrev pub name_test : List ℕ → Bool
name_test name = not (nat_eq (slice_index name 0) 0) && not (list_any (nat_eq slash) name) && is_padded name

unnot : (b : Bool) → not b ≡ true → b ≡ false
unnot true t = absurd (cc)
unnot false t = refl

pub test_name : (name : List ℕ) → length name ≡ 14 → name_test name ≡ true → IsName name
test_name name full t =
    let one = both (not (nat_eq (slice_index name 0) 0) && not (list_any (nat_eq slash) name)) (is_padded name) t in
    let two = both (not (nat_eq (slice_index name 0) 0)) (not (list_any (nat_eq slash) name)) one.0 in
    let some = unnot (nat_eq (slice_index name 0) 0) two.0 in
    record {
      full = full;
      some = λ e. (let is : nat_eq (slice_index name 0) 0 ≡ true = ap (λ n. nat_eq n 0) e in cc);
      no_slash = λ at low. none_of slash name (unnot (list_any (nat_eq slash) name) two.1) at (omega (arith, low, full));
      padding = λ at later low e. padded_from name one.1 at later low e;
    }

pub name_tests : (name : List ℕ) → IsName name → name_test name ≡ true
name_tests name is =
    let full = is.full in
    let some = is.some in
    let first : nat_eq (slice_index name 0) 0 ≡ false = grind (arith, nat_tests) in
    let none = of_none slash name (λ k low. is.no_slash k (omega (arith, low, full))) in
    ap (λ b. not b && not (list_any (nat_eq slash) name) && is_padded name) first ∙ ap (λ b. not b && is_padded name) none ∙ from_padded name is.padding
