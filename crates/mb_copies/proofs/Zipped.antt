-- Blocks beside their copies, of which there may be more.
use Rattle.std.proofs.Common.{◌≡◌, ◌∙◌, ℕ, ◌+◌, ◌<◌, ◌≤◌, suc, zero, List, [], ◌∷◌, ◌++◌, Bool, true, false, not, cond, ◌||◌, Some, None, length, nat_eq, slice_get, slice_set, find, refl, ap, subst, sym, arith}
use Rattle.std.proofs.lemmas.Bool.Decides.{nat_tests}
use Rattle.std.proofs.lemmas.List.Sums.{prefix_len-le-length}
use Rattle.std.proofs.lemmas.Map.Entries.{lookup_from_place}
use Rattle.std.specs.Cmp.{nat_eq_equiv}
use Rattle.std.specs.List.{IsDistinct, list_any, position_or_len, zip}
use Rattle.std.specs.Map.{keys_of}
use Rattle.indexmap.specs.IndexMap.{insert_entry, set_value_at}
use Rattle.indexmap.specs.IndexSet.{insert_key}
use Rattle.mb_cache.specs.Kept.{KeptBlock, kept_at}

pub length_zip : (ks : List ℕ) (vs : List KeptBlock) → length ks ≤ length vs → length (zip ks vs) ≡ length ks
length_zip [] vs few = refl
length_zip (k ∷ ks) [] few = absurd (omega (arith, few))
length_zip (k ∷ ks) (v ∷ vs) few = ap suc (length_zip ks vs (omega (arith, few)))

pub keys_zip : (ks : List ℕ) (vs : List KeptBlock) → length ks ≤ length vs → keys_of (zip ks vs) ≡ ks
keys_zip [] vs few = refl
keys_zip (k ∷ ks) [] few = absurd (omega (arith, few))
keys_zip (k ∷ ks) (v ∷ vs) few = ap (λ rest. k ∷ rest) (keys_zip ks vs (omega (arith, few)))

-- copies behind are of no block
pub zip_more : (ks : List ℕ) (vs blank : List KeptBlock) → length ks ≤ length vs → zip ks (vs ++ blank) ≡ zip ks vs
zip_more [] vs blank few = refl
zip_more (k ∷ ks) [] blank few = absurd (omega (arith, few))
zip_more (k ∷ ks) (v ∷ vs) blank few = ap (λ rest. (k, v) ∷ rest) (zip_more ks vs blank (omega (arith, few)))

pub zip_at : (ks : List ℕ) (vs : List KeptBlock) (i k : ℕ) (v : KeptBlock) → slice_get ks i ≡ Some k → slice_get vs i ≡ Some v → slice_get (zip ks vs) i ≡ Some (k, v)
zip_at [] vs i k v key copy = cc
zip_at (k0 ∷ ks) [] i k v key copy = cc
zip_at (k0 ∷ ks) (v0 ∷ vs) zero k v key copy = let one : k0 ≡ k = cc in let other : v0 ≡ v = cc in ap (λ x. Some (x, v0)) one ∙ ap (λ x. Some (k, x)) other
zip_at (k0 ∷ ks) (v0 ∷ vs) (suc i) k v key copy = zip_at ks vs i k v key copy

pub zip_set : (ks : List ℕ) (vs : List KeptBlock) (i : ℕ) (v : KeptBlock) → zip ks (slice_set vs i v) ≡ set_value_at (zip ks vs) i v
zip_set [] vs i v = refl
zip_set (k ∷ ks) [] i v = refl
zip_set (k ∷ ks) (v0 ∷ vs) zero v = refl
zip_set (k ∷ ks) (v0 ∷ vs) (suc i) v = ap (λ rest. (k, v0) ∷ rest) (zip_set ks vs i v)

-- a block that is not among them has no copy
pub none_kept : (block : ℕ) (ks : List ℕ) (vs : List KeptBlock) → list_any (nat_eq block) ks ≡ false → kept_at (zip ks vs) block ≡ None
none_kept block [] vs none = refl
none_kept block (k ∷ ks) [] none = refl
none_kept block (k ∷ ks) (v ∷ vs) none = at_test (nat_eq block k) none (none_kept block ks vs)
  where
    at_test : (test : Bool) → (test || list_any (nat_eq block) ks) ≡ false → (list_any (nat_eq block) ks ≡ false → kept_at (zip ks vs) block ≡ None) → cond test (Some v) (kept_at (zip ks vs) block) ≡ None
    at_test true both later = cc
    at_test false both later = later both

-- what a search for a block finds is the block
pub found_is : (block : ℕ) (ks : List ℕ) (found : ℕ) → find (nat_eq block) ks ≡ Some found → found ≡ block
found_is block [] found is = cc
found_is block (k ∷ ks) found is = at_test (nat_eq block k) refl is (found_is block ks found)
  where
    at_test : (test : Bool) → nat_eq block k ≡ test → cond test (Some k) (find (nat_eq block) ks) ≡ Some found → (find (nat_eq block) ks ≡ Some found → found ≡ block) → found ≡ block
    at_test true same here later = let one : block ≡ k = grind (arith, nat_tests, same) in let other : k ≡ found = cc in sym (one ∙ other)
    at_test false apart here later = later here

-- a block stands among them, or comes behind all
pub not_behind : (block : ℕ) (ks : List ℕ) → position_or_len (nat_eq block) ks ≤ length ks
not_behind block ks = prefix_len-le-length (λ k. not (nat_eq block k)) ks

-- a copy in its block's place, or a block with its copy behind the others
pub inserted : (block : ℕ) (kept : KeptBlock) (ks : List ℕ) (vs : List KeptBlock) → position_or_len (nat_eq block) ks < length vs
    → zip (insert_key nat_eq ks block) (slice_set vs (position_or_len (nat_eq block) ks) kept) ≡ insert_entry nat_eq (zip ks vs) block kept
inserted block kept [] [] less = absurd (omega (arith, less))
inserted block kept [] (v ∷ vs) less = refl
inserted block kept (k ∷ ks) [] less = absurd (omega (arith, less))
inserted block kept (k ∷ ks) (v ∷ vs) less = at_test (nat_eq block k) less (inserted block kept ks vs)
  where
    further : ℕ
    further = position_or_len (nat_eq block) ks

    either : (test : Bool) (one other : List ℕ) (rest : List KeptBlock) → zip (cond test (k ∷ one) (k ∷ other)) (v ∷ rest) ≡ (k, v) ∷ zip (cond test one other) rest
    either true one other rest = refl
    either false one other rest = refl

    at_test : (test : Bool) → cond (not test) (1 + further) 0 < length (v ∷ vs) → (further < length vs → zip (insert_key nat_eq ks block) (slice_set vs further kept) ≡ insert_entry nat_eq (zip ks vs) block kept)
        → zip (cond (test || list_any (nat_eq block) ks) (k ∷ ks) (k ∷ ks ++ block ∷ [])) (slice_set (v ∷ vs) (cond (not test) (1 + further) 0) kept) ≡ cond test ((k, kept) ∷ zip ks vs) ((k, v) ∷ insert_entry nat_eq (zip ks vs) block kept)
    at_test true few later = refl
    at_test false few later =
        let next : 1 + further ≡ suc further = omega arith in
        ap (λ place. zip (cond (list_any (nat_eq block) ks) (k ∷ ks) (k ∷ ks ++ block ∷ [])) (slice_set (v ∷ vs) place kept)) next
        ∙ either (list_any (nat_eq block) ks) ks (ks ++ block ∷ []) (slice_set vs further kept)
        ∙ ap (λ rest. (k, v) ∷ rest) (later (omega (arith, few)))

-- the copy at a block's place is its copy
pub kept_in : (ks : List ℕ) (vs : List KeptBlock) (place block : ℕ) (kept : KeptBlock) → length ks ≤ length vs → IsDistinct nat_eq ks → slice_get ks place ≡ Some block → slice_get vs place ≡ Some kept → kept_at (zip ks vs) block ≡ Some kept
kept_in ks vs place block kept few once key copy =
    lookup_from_place nat_eq_equiv (zip ks vs) place block kept (subst (IsDistinct nat_eq) (sym (keys_zip ks vs few)) once) (zip_at ks vs place block kept key copy)
