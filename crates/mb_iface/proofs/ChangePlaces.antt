-- Changes by their places in the list.
use Rattle.std.proofs.Common.{ℕ, zero, suc, ◌≡◌, List, [], ◌∷◌, Some, MatchOption, cond, nat_eq, slice_get, length, unwrap_or, refl, sym, ap, subst, ◌∙◌}
use Rattle.std.proofs.lemmas.List.Elements.{All-cons, All-head, All-tail}
use Rattle.std.proofs.lemmas.Map.Entries.{lookup_from_place}
use Rattle.std.specs.Cmp.{nat_eq_equiv}
use Rattle.std.specs.List.{All, IsDistinct}
use Rattle.std.specs.Map.{keys_of}
use Rattle.indexmap.specs.IndexMap.{set_value_at}
use Rattle.indexmap.specs.Layout.{hash_map}
use Rattle.indexmap.proofs.CallerLemmas.{updates-with_value_at}
use Rattle.mb_word.specs.Numbers.{put_at}
use Rattle.mb_kinds.specs.Changed.{ChangeList, IsChange, AreChanges, changed}

keys_set : (changes : ChangeList) (place : ℕ) (bytes : List ℕ) → keys_of (set_value_at changes place bytes) ≡ keys_of changes
keys_set [] place bytes = refl
keys_set (change ∷ changes) zero bytes = refl
keys_set (change ∷ changes) (suc place) bytes = ap (λ ks. change.0 ∷ ks) (keys_set changes place bytes)

each_set : (changes : ChangeList) (place : ℕ) (bytes : List ℕ) → All IsChange changes → length bytes ≡ 512 → All IsChange (set_value_at changes place bytes)
each_set [] place bytes each sized = each
each_set (change ∷ changes) zero bytes each sized =
    let first = All-head IsChange change changes each in
    let here : IsChange (change.0, bytes) = record { below = first.below; sized = sized } in
    All-cons IsChange (change.0, bytes) changes here (All-tail IsChange change changes each)
each_set (change ∷ changes) (suc place) bytes each sized =
    All-cons IsChange change (set_value_at changes place bytes) (All-head IsChange change changes each) (each_set changes place bytes (All-tail IsChange change changes each) sized)

-- new bytes at a place
pub changes_set : (changes : ChangeList) (place : ℕ) (bytes : List ℕ) → AreChanges changes → length bytes ≡ 512 → AreChanges (set_value_at changes place bytes)
changes_set changes place bytes are sized = record {
  each = each_set changes place bytes are.each sized;
  once = subst (IsDistinct nat_eq) (sym (keys_set changes place bytes)) are.once;
}

-- a block that stands at a place is changed
pub changed_at : (changes : ChangeList) (place block : ℕ) (bytes : List ℕ) → AreChanges changes → slice_get changes place ≡ Some (block, bytes) → changed changes block ≡ Some bytes
changed_at changes place block bytes are here = lookup_from_place nat_eq_equiv changes place block bytes are.once here

-- bytes set at its place are those of that block alone
pub set_at : (changes : ChangeList) (place block : ℕ) (was new : List ℕ) → AreChanges changes → slice_get changes place ≡ Some (block, was)
    → (other : ℕ) → changed (set_value_at changes place new) other ≡ cond (nat_eq block other) (Some new) (changed changes other)
set_at changes place block was new are here = (updates-with_value_at {S = ℕ} (hash_map changes 0 0) place new nat_eq_equiv are.once block was here).0

-- and so are bytes written over a part of it
pub patched_at : (changes : ChangeList) (place block at : ℕ) (was bytes new : List ℕ) → AreChanges changes → slice_get changes place ≡ Some (block, was) → new ≡ put_at was at bytes
    → MatchOption (changed changes block) (set_value_at changes place new ≡ changes) (λ old. (other : ℕ) → changed (set_value_at changes place new) other ≡ cond (nat_eq block other) (Some (put_at old at bytes)) (changed changes other))
patched_at changes place block at was bytes new are here made =
    subst (λ o. MatchOption o (set_value_at changes place new ≡ changes) (λ old. (other : ℕ) → changed (set_value_at changes place new) other ≡ cond (nat_eq block other) (Some (put_at old at bytes)) (changed changes other)))
    (sym (changed_at changes place block was are here))
    (λ other. set_at changes place block was new are here other ∙ ap (λ b. cond (nat_eq block other) (Some b) (changed changes other)) made)

-- what stands at a place stands there alone
pub of_block : (changes : ChangeList) (place block key : ℕ) (bytes was : List ℕ) → slice_get changes place ≡ Some (block, bytes) → slice_get changes place ≡ Some (key, was) → slice_get changes place ≡ Some (block, was)
of_block changes place block key bytes was here there =
    let same : key ≡ block = ap (λ o. (unwrap_or {T = ℕ × List ℕ} o (block, bytes)).0) (sym there ∙ here) in
    there ∙ ap (λ k. Some (k, was)) same
