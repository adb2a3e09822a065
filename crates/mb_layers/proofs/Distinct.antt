-- Lists of pages of different blocks.
use Rattle.std.proofs.Common.{◌≡◌, ℕ, true, false, cond, List, [], ◌∷◌, ◌++◌, Some, None, nat_eq, refl, sym, ap, ◌∙◌, subst}
use Rattle.std.proofs.lemmas.List.{map-append}
use Rattle.std.specs.List.{IsDistinct, AllByRecursion, All}
use Rattle.std.specs.Map.{keys_of}
use Rattle.std.proofs.lemmas.List.Elements.{All-nil, All-cons, All-head, All-tail, All-append}
use Rattle.mb_frames.specs.Pages.{Page, contents}
use Rattle.mb_kinds.specs.Changed.{IsChange, AreChanges}
use Rattle.mb_layers.specs.Places.{place_at}

abbrev pub blocks_of : List Page → List ℕ
blocks_of ring = keys_of (contents ring)

-- a block that has no page is none of the blocks
pub absent : (ring : List Page) (block : ℕ) → place_at ring block ≡ None → AllByRecursion (λ key. nat_eq block key ≡ false) (blocks_of ring)
absent [] block e = tt
absent (x ∷ xs) block e = (elim (nat_eq block x.block) as (λ y. nat_eq block x.block ≡ y → cond y (Some x.place) (place_at xs block) ≡ None → (nat_eq block x.block ≡ false) × AllByRecursion (λ key. nat_eq block key ≡ false) (blocks_of xs)) [
  | true ↦ λ s z. absurd cc
  | false ↦ λ s z. (s, absent xs block z)
]) refl e

pub none_of : (ring : List Page) (block : ℕ) → AllByRecursion (λ key. nat_eq block key ≡ false) (blocks_of ring) → place_at ring block ≡ None
none_of [] block a = refl
none_of (x ∷ xs) block a = ap (λ y. cond y (Some x.place) (place_at xs block)) a.0 ∙ none_of xs block a.1

all_keys : (P : ℕ → Type 0) (xs ys : List Page) → AllByRecursion P (blocks_of xs) → AllByRecursion P (blocks_of ys) → AllByRecursion P (blocks_of (xs ++ ys))
all_keys P [] ys a b = b
all_keys P (x ∷ xs) ys a b = (a.0, all_keys P xs ys a.1 b)

keys_left : (P : ℕ → Type 0) (xs ys : List Page) → AllByRecursion P (blocks_of (xs ++ ys)) → AllByRecursion P (blocks_of xs) × AllByRecursion P (blocks_of ys)
keys_left P [] ys a = (tt, a)
keys_left P (x ∷ xs) ys a = let r = keys_left P xs ys a.1 in ((a.0, r.0), r.1)

-- two lists with no block in both
pub distinct_append : (xs ys : List Page) → IsDistinct nat_eq (blocks_of xs) → IsDistinct nat_eq (blocks_of ys) → AllByRecursion (λ key. place_at ys key ≡ None) (blocks_of xs) → IsDistinct nat_eq (blocks_of (xs ++ ys))
unfolding IsDistinct
distinct_append [] ys a b n = b
distinct_append (x ∷ xs) ys a b n = (all_keys (λ key. nat_eq x.block key ≡ false) xs ys a.0 (absent ys x.block n.0), distinct_append xs ys a.1 b n.1)

-- one left out
pub distinct_cut : (xs : List Page) (g : Page) (ys : List Page) → IsDistinct nat_eq (blocks_of (xs ++ g ∷ ys)) → IsDistinct nat_eq (blocks_of (xs ++ ys)) × (place_at ys g.block ≡ None)
unfolding IsDistinct
distinct_cut [] g ys a = (a.1, none_of ys g.block a.0)
distinct_cut (x ∷ xs) g ys a =
    let r = keys_left (λ key. nat_eq x.block key ≡ false) xs (g ∷ ys) a.0 in
    let d = distinct_cut xs g ys a.1 in
    ((all_keys (λ key. nat_eq x.block key ≡ false) xs ys r.0 r.1.1, d.0), d.1)

each_cut : (xs : List Page) (g : Page) (ys : List Page) → All IsChange (contents (xs ++ g ∷ ys)) → All IsChange (contents (xs ++ ys))
each_cut [] g ys a = All-tail IsChange (g.block, g.bytes) (contents ys) a
each_cut (x ∷ xs) g ys a =
    let e : ℕ × List ℕ = (x.block, x.bytes) in
    All-cons IsChange e (contents (xs ++ ys)) (All-head IsChange e (contents (xs ++ g ∷ ys)) a) (each_cut xs g ys (All-tail IsChange e (contents (xs ++ g ∷ ys)) a))

pub changes_cut : (xs : List Page) (g : Page) (ys : List Page) → AreChanges (contents (xs ++ g ∷ ys)) → AreChanges (contents (xs ++ ys))
changes_cut xs g ys a = record { each = each_cut xs g ys a.each; once = (distinct_cut xs g ys a.once).0 }

pub changes_append : (xs ys : List Page) → AreChanges (contents xs) → AreChanges (contents ys) → AllByRecursion (λ key. place_at ys key ≡ None) (blocks_of xs) → AreChanges (contents (xs ++ ys))
changes_append xs ys a b n = record {
  each = subst (All IsChange) (sym (map-append (λ (g : Page). (g.block, g.bytes)) xs ys)) (All-append IsChange (contents xs) (contents ys) a.each b.each);
  once = distinct_append xs ys a.once b.once n;
}

pub changes_none : AreChanges []
unfolding IsDistinct
changes_none = record { each = All-nil IsChange; once = tt }

pub changes_one : (g : Page) → IsChange (g.block, g.bytes) → AreChanges (contents (g ∷ []))
unfolding IsDistinct
changes_one g c = record { each = All-cons IsChange (g.block, g.bytes) [] c (All-nil IsChange); once = (tt, tt) }
