-- Copies that have the new bytes of changed blocks.
use Rattle.std.proofs.Common.{◌≡◌, ◌∙◌, ℕ, ◌+◌, List, [], ◌∷◌, Bool, true, false, cond, Option, Some, None, IfSome, option_map, unwrap_or, slice_get, drop, nat_eq, refl, ap, sym, subst, arith}
use Rattle.std.proofs.lemmas.Bool.Decides.{nat_tests}
use Rattle.std.proofs.lemmas.Map.Entries.{lookup_from_place}
use Rattle.std.proofs.lemmas.Map.Keys.{IsDistinct-head, IsDistinct-tail}
use Rattle.std.specs.Cmp.{nat_eq_equiv}
use Rattle.std.specs.List.{AllByRecursion, IsDistinct}
use Rattle.std.specs.Map.{keys_of}
use Rattle.indexmap.specs.IndexMap.{set_value_at}
use Rattle.indexmap.specs.Layout.{hash_map}
use Rattle.indexmap.proofs.CallerLemmas.{updates-with_value_at}
use Rattle.mb_cache.proofs.PageLoops.{next_first}
use Rattle.mb_kinds.specs.Changed.{ChangeList, changed}
use Rattle.mb_tree.specs.Views.{IsPart, over}
use Rattle.mb_cache.specs.Kept.{CopyList, KeptBlock, kept_at, shown}
use Rattle.mb_copies.specs.Reads.{renewed}

-- ---- one copy

same_bytes : (bytes : Option (List ℕ)) → bytes ≡ option_map (λ (b : List ℕ). unwrap_or None b) bytes
same_bytes None = refl
same_bytes (Some bytes) = refl

-- a block that has no copy gets none
pub none_renewed : (copies : CopyList) (block : ℕ) (bytes : List ℕ) → kept_at copies block ≡ None → (other : ℕ) → shown copies other ≡ renewed ((block, bytes) ∷ []) (shown copies) other
none_renewed copies block bytes none other = at_test (nat_eq other block) refl
  where
    at_test : (test : Bool) → nat_eq other block ≡ test → shown copies other ≡ option_map (λ b. unwrap_or (cond test (Some bytes) None) b) (shown copies other)
    at_test true is =
        let here : other ≡ block = grind (arith, nat_tests, is) in
        let lacks : shown copies other ≡ None = ap (λ at. shown copies at) here ∙ ap (option_map (λ (k : KeptBlock). k.bytes)) none in
        lacks ∙ sym (ap (option_map (λ (b : List ℕ). bytes)) lacks)
    at_test false is = same_bytes (shown copies other)

-- new bytes at the place of a block's copy
pub one_renewed : (copies : CopyList) (place block : ℕ) (was kept : KeptBlock) (bytes : List ℕ) → IsDistinct nat_eq (keys_of copies) → slice_get copies place ≡ Some (block, was) → kept.bytes ≡ bytes
    → (other : ℕ) → shown (set_value_at copies place kept) other ≡ renewed ((block, bytes) ∷ []) (shown copies) other
one_renewed copies place block was kept bytes once here is other =
    ap (option_map (λ (k : KeptBlock). k.bytes)) ((updates-with_value_at {S = ℕ} (hash_map copies 0 0) place kept nat_eq_equiv once block was here).0 other) ∙ at_test (nat_eq block other) refl
  where
    at_test : (test : Bool) → nat_eq block other ≡ test → option_map (λ (k : KeptBlock). k.bytes) (cond test (Some kept) (kept_at copies other)) ≡ renewed ((block, bytes) ∷ []) (shown copies) other
    at_test true same =
        let at : block ≡ other = grind (arith, nat_tests, same) in
        let swap : nat_eq other block ≡ true = grind (arith, nat_tests, same) in
        let old : kept_at copies other ≡ Some was = subst (λ b. kept_at copies b ≡ Some was) at (lookup_from_place nat_eq_equiv copies place block was once here) in
        ap Some is ∙ sym (ap (λ b. option_map (λ x. unwrap_or (cond b (Some bytes) None) x) (shown copies other)) swap ∙ ap (λ o. option_map (λ (x : List ℕ). bytes) (option_map (λ (k : KeptBlock). k.bytes) o)) old)
    at_test false apart =
        let swap : nat_eq other block ≡ false = grind (arith, nat_tests, apart) in
        same_bytes (shown copies other) ∙ sym (ap (λ b. option_map (λ x. unwrap_or (cond b (Some bytes) None) x) (shown copies other)) swap)

-- ---- one after another

not_among : (block : ℕ) (changes : ChangeList) → AllByRecursion (λ key. nat_eq block key ≡ false) (keys_of changes) → changed changes block ≡ None
not_among block [] apart = refl
not_among block (change ∷ changes) apart = ap (λ b. cond b (Some change.1) (changed changes block)) apart.0 ∙ not_among block changes apart.1

-- a change, and then the others, which are of other blocks
first_then : (change : ℕ × List ℕ) (changes : ChangeList) (view : ℕ → Option (List ℕ)) (block : ℕ) → IsDistinct nat_eq (keys_of (change ∷ changes)) → renewed changes (renewed (change ∷ []) view) block ≡ renewed (change ∷ changes) view block
first_then change changes view block once = at_test (nat_eq block change.0) refl (view block)
  where
    at_test : (test : Bool) → nat_eq block change.0 ≡ test → (bytes : Option (List ℕ))
        → option_map (λ b. unwrap_or (changed changes block) b) (option_map (λ b. unwrap_or (cond test (Some change.1) None) b) bytes) ≡ option_map (λ b. unwrap_or (cond test (Some change.1) (changed changes block)) b) bytes
    at_test test is None = refl
    at_test true is (Some bytes) =
        let at : change.0 ≡ block = grind (arith, nat_tests, is) in
        let none : changed changes block ≡ None = subst (λ b. changed changes b ≡ None) at (not_among change.0 changes (IsDistinct-head nat_eq change.0 (keys_of changes) once)) in
        ap (λ o. Some (unwrap_or o change.1)) none
    at_test false is (Some bytes) = refl

-- one change more was made
pub renewed_more : (old new : ℕ → Option (List ℕ)) (changes : ChangeList) (at block : ℕ) (bytes : List ℕ) (goal : ℕ → Option (List ℕ)) → slice_get changes at ≡ Some (block, bytes) → IsDistinct nat_eq (keys_of (drop at changes))
    → ((other : ℕ) → renewed (drop at changes) old other ≡ goal other) → ((other : ℕ) → new other ≡ renewed ((block, bytes) ∷ []) old other)
    → (other : ℕ) → renewed (drop (at + 1) changes) new other ≡ goal other
renewed_more old new changes at block bytes goal here once so_far one other =
    let next = next_first changes at (block, bytes) here in
    ap (option_map (λ b. unwrap_or (changed (drop (at + 1) changes) other) b)) (one other)
    ∙ first_then (block, bytes) (drop (at + 1) changes) old other (subst (λ list. IsDistinct nat_eq (keys_of list)) next once)
    ∙ sym (ap (λ list. renewed list old other) next) ∙ so_far other

pub once_more : (changes : ChangeList) (at block : ℕ) (bytes : List ℕ) → slice_get changes at ≡ Some (block, bytes) → IsDistinct nat_eq (keys_of (drop at changes)) → IsDistinct nat_eq (keys_of (drop (at + 1) changes))
once_more changes at block bytes here once = IsDistinct-tail nat_eq block (keys_of (drop (at + 1) changes)) (subst (λ list. IsDistinct nat_eq (keys_of list)) (next_first changes at (block, bytes) here) once)

-- ---- a part of what is seen

part_at : (change bytes : Option (List ℕ)) (below : List ℕ) → IfSome bytes (λ b. below ≡ b) → IfSome (option_map (λ b. unwrap_or change b) bytes) (λ b. unwrap_or change below ≡ b)
part_at change None below part = tt
part_at change (Some bytes) below part = ap (unwrap_or change) part

-- a part of the blocks, with the new bytes, is a part of the blocks under the changes
pub renewed_part : (old new : ℕ → Option (List ℕ)) (changes : ChangeList) → ((block : ℕ) → new block ≡ renewed changes old block) → (blocks : ℕ → List ℕ) → IsPart old blocks → IsPart new (over blocks (changed changes))
unfolding over
renewed_part old new changes are blocks part block = subst (λ o. IfSome o (λ bytes. unwrap_or (changed changes block) (blocks block) ≡ bytes)) (sym (are block)) (part_at (changed changes block) (old block) (blocks block) (part block))
