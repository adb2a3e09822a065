-- Numbers of blocks that are changed at their places.
use Rattle.std.proofs.Common.{◌≡◌, ◌∙◌, ℕ, ◌+◌, ◌-◌, ◌^◌, ◌<◌, ◌≤◌, min, Bool, true, false, cond, Option, Some, unwrap_or, slice_get, nat_eq, refl, sym, ap, subst, arith}
use Rattle.std.proofs.lemmas.Bool.Decides.{nat_tests}
use Rattle.std.proofs.lemmas.Map.Entries.{lookup_from_place}
use Rattle.std.specs.Cmp.{nat_eq_equiv}
use Rattle.std.specs.List.{IsDistinct}
use Rattle.std.specs.Map.{keys_of, lookup}
use Rattle.indexmap.specs.IndexMap.{set_value_at}
use Rattle.indexmap.specs.Layout.{hash_map}
use Rattle.indexmap.proofs.CallerLemmas.{updates-with_value_at}
use Rattle.indexmap.proofs.MapLemmas.{insert_entry-first}
use Rattle.indexmap.proofs.RemoveLemmas.{own_first}
use Rattle.mb_cache.specs.Stamps.{Stamps, stamp_of, raised}
use Rattle.mb_cache.proofs.Raising.{lookup_inserted}

-- a block's number is the one at its place
pub number_at : (stamps : Stamps) (place block was : ℕ) → IsDistinct nat_eq (keys_of stamps) → slice_get stamps place ≡ Some (block, was) → stamp_of stamps block ≡ was
number_at stamps place block was once here = ap (λ (found : Option ℕ). unwrap_or found 0) (lookup_from_place nat_eq_equiv stamps place block was once here)

-- what is found at a place twice is the same
pub same_number : (stamps : Stamps) (place key was block number : ℕ) → slice_get stamps place ≡ Some (key, was) → slice_get stamps place ≡ Some (block, number) → was ≡ number
same_number stamps place key was block number one other = ap (λ (found : Option (ℕ × ℕ)). (unwrap_or found (key, was)).1) (sym one ∙ other)

-- one more at its place
pub raised_at : (stamps : Stamps) (place block was : ℕ) → IsDistinct nat_eq (keys_of stamps) → slice_get stamps place ≡ Some (block, was)
    → set_value_at stamps place (min (was + 1) (2 ^ 64 - 1)) ≡ raised stamps block
raised_at stamps place block was once here =
    sym (insert_entry-first nat_eq block (min (stamp_of stamps block + 1) (2 ^ 64 - 1)) stamps place (own_first nat_eq nat_eq_equiv stamps place block was once here)
    ∙ ap (λ n. set_value_at stamps place (min (n + 1) (2 ^ 64 - 1))) (number_at stamps place block was once here))

-- one less at its place
pub lowered_at : (stamps : Stamps) (place block was : ℕ) → IsDistinct nat_eq (keys_of stamps) → slice_get stamps place ≡ Some (block, was)
    → (other : ℕ) → stamp_of (set_value_at stamps place (was - 1)) other ≡ cond (nat_eq block other) (stamp_of stamps other - 1) (stamp_of stamps other)
lowered_at stamps place block was once here other =
    ap (λ (found : Option ℕ). unwrap_or found 0) ((updates-with_value_at {S = ℕ} (hash_map stamps 0 0) place (was - 1) nat_eq_equiv once block was here).0 other) ∙ at_test (nat_eq block other) refl
  where
    at_test : (test : Bool) → nat_eq block other ≡ test → unwrap_or (cond test (Some (was - 1)) (lookup (nat_eq other) stamps)) 0 ≡ cond test (stamp_of stamps other - 1) (stamp_of stamps other)
    at_test true same =
        let at : block ≡ other = grind (arith, nat_tests, same) in
        ap (λ n. n - 1) (sym (number_at stamps place block was once here) ∙ ap (stamp_of stamps) at)
    at_test false apart = refl

-- one more where the number is not the greatest
pub raised_below : (stamps : Stamps) (block : ℕ) → stamp_of stamps block < 2 ^ 64 - 1
    → (other : ℕ) → stamp_of (raised stamps block) other ≡ cond (nat_eq block other) (stamp_of stamps other + 1) (stamp_of stamps other)
raised_below stamps block below other =
    ap (λ (found : Option ℕ). unwrap_or found 0) (lookup_inserted stamps block (min (stamp_of stamps block + 1) (2 ^ 64 - 1)) other) ∙ at_test (nat_eq block other) refl
  where
    at_test : (test : Bool) → nat_eq block other ≡ test → unwrap_or (cond test (Some (min (stamp_of stamps block + 1) (2 ^ 64 - 1))) (lookup (nat_eq other) stamps)) 0 ≡ cond test (stamp_of stamps other + 1) (stamp_of stamps other)
    at_test true same =
        let at : block ≡ other = grind (arith, nat_tests, same) in
        let number = ap (stamp_of stamps) at in
        omega (arith, number, below)
    at_test false apart = refl

-- and no number is then above the greatest by more than one
pub raised_within : (stamps : Stamps) (block most : ℕ) → stamp_of stamps block < 2 ^ 64 - 1 → ((other : ℕ) → stamp_of stamps other ≤ most)
    → (other : ℕ) → stamp_of (raised stamps block) other ≤ most + 1
raised_within stamps block most below within other = subst (λ n. n ≤ most + 1) (sym (raised_below stamps block below other)) (at_test (nat_eq block other))
  where
    at_test : (test : Bool) → cond test (stamp_of stamps other + 1) (stamp_of stamps other) ≤ most + 1
    at_test true = let least = within other in omega (arith, least)
    at_test false = let least = within other in omega (arith, least)
