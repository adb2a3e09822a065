-- The bytes of pages change: their blocks and their places stay.
use Rattle.std.proofs.Common.{◌≡◌, ℕ, zero, suc, true, false, cond, List, [], ◌∷◌, ◌++◌, Option, Some, None, length, map, slice_get, nat_eq, if◌then◌else◌, refl, sym, ap, ◌∙◌, subst}
use Rattle.std.specs.List.{IsDistinct, All}
use Rattle.std.proofs.lemmas.List.Elements.{All-cons, All-head, All-tail}
use Rattle.indexmap.specs.IndexMap.{insert_entry}
use Rattle.mb_edge.specs.Damage.{wiped, page_replaced}
use Rattle.mb_frames.specs.Pages.{Page, page, contents, filled, replaced}
use Rattle.mb_kinds.specs.Changed.{IsChange, AreChanges}
use Rattle.mb_layers.specs.Places.{placed, place_at}
use Rattle.mb_layers.proofs.Finds.{block_self}
use Rattle.mb_layers.proofs.Distinct.{blocks_of}

-- ---- one page

pub placed_replaced : (gs : List Page) (n : ℕ) (b : List ℕ) → placed (replaced gs n b) ≡ placed gs
placed_replaced [] n b = refl
placed_replaced (g ∷ gs) zero b = refl
placed_replaced (g ∷ gs) (suc n) b = ap (λ l. (g.block, g.place) ∷ l) (placed_replaced gs n b)

blocks_replaced : (gs : List Page) (n : ℕ) (b : List ℕ) → blocks_of (replaced gs n b) ≡ blocks_of gs
blocks_replaced [] n b = refl
blocks_replaced (g ∷ gs) zero b = refl
blocks_replaced (g ∷ gs) (suc n) b = ap (λ l. g.block ∷ l) (blocks_replaced gs n b)

each_replaced : (gs : List Page) (n : ℕ) (b : List ℕ) → length b ≡ 512 → All IsChange (contents gs) → All IsChange (contents (replaced gs n b))
each_replaced [] n b s a = a
each_replaced (g ∷ gs) zero b s a =
    All-cons IsChange (g.block, b) (contents gs) (record { below = (All-head IsChange (g.block, g.bytes) (contents gs) a).below; sized = s }) (All-tail IsChange (g.block, g.bytes) (contents gs) a)
each_replaced (g ∷ gs) (suc n) b s a =
    All-cons IsChange (g.block, g.bytes) (contents (replaced gs n b)) (All-head IsChange (g.block, g.bytes) (contents gs) a) (each_replaced gs n b s (All-tail IsChange (g.block, g.bytes) (contents gs) a))

pub changes_replaced : (gs : List Page) (n : ℕ) (b : List ℕ) → length b ≡ 512 → AreChanges (contents gs) → AreChanges (contents (replaced gs n b))
changes_replaced gs n b s a = record { each = each_replaced gs n b s a.each; once = subst (IsDistinct nat_eq) (sym (blocks_replaced gs n b)) a.once }

replaced_on : (page : ℕ × List ℕ) (pages : List (ℕ × List ℕ)) (n : ℕ) (b : List ℕ) (found : Option (ℕ × List ℕ)) → page ∷ page_replaced pages n b found ≡ page_replaced (page ∷ pages) (suc n) b found
replaced_on page pages n b None = refl
replaced_on page pages n b (Some other) = refl

pub contents_replaced : (gs : List Page) (n : ℕ) (b : List ℕ) → contents (replaced gs n b) ≡ page_replaced (contents gs) n b (slice_get (contents gs) n)
contents_replaced [] n b = refl
contents_replaced (g ∷ gs) zero b = refl
contents_replaced (g ∷ gs) (suc n) b = ap (λ l. (g.block, g.bytes) ∷ l) (contents_replaced gs n b) ∙ replaced_on (g.block, g.bytes) (contents gs) n b (slice_get (contents gs) n)

-- the page of a block
pub contents_written : (before : List Page) (g : Page) (behind : List Page) (block : ℕ) (b : List ℕ) → g.block ≡ block → place_at before block ≡ None
    → contents (replaced (before ++ g ∷ behind) (length before) b) ≡ insert_entry nat_eq (contents (before ++ g ∷ behind)) block b
contents_written [] g behind block b is none = sym (ap (λ y. if y then (g.block, b) ∷ contents behind else (g.block, g.bytes) ∷ insert_entry nat_eq (contents behind) block b) (ap (nat_eq block) is ∙ block_self block))
contents_written (x ∷ xs) g behind block b is none = (elim (nat_eq block x.block) as (λ y. cond y (Some x.place) (place_at xs block) ≡ None
    → (x.block, x.bytes) ∷ contents (replaced (xs ++ g ∷ behind) (length xs) b) ≡ (if y then (x.block, b) ∷ contents (xs ++ g ∷ behind) else (x.block, x.bytes) ∷ insert_entry nat_eq (contents (xs ++ g ∷ behind)) block b)) [
      | true ↦ λ z. absurd cc
      | false ↦ λ z. ap (λ l. (x.block, x.bytes) ∷ l) (contents_written xs g behind block b is z)
    ]) none

-- the page of a block that had none
pub contents_put : (gs : List Page) (g : Page) → place_at gs g.block ≡ None → contents (gs ++ g ∷ []) ≡ insert_entry nat_eq (contents gs) g.block g.bytes
contents_put [] g none = refl
contents_put (x ∷ xs) g none = (elim (nat_eq g.block x.block) as (λ y. cond y (Some x.place) (place_at xs g.block) ≡ None
    → (x.block, x.bytes) ∷ contents (xs ++ g ∷ []) ≡ (if y then (x.block, g.bytes) ∷ contents xs else (x.block, x.bytes) ∷ insert_entry nat_eq (contents xs) g.block g.bytes)) [
      | true ↦ λ z. absurd cc
      | false ↦ λ z. ap (λ l. (x.block, x.bytes) ∷ l) (contents_put xs g z)
    ]) none

-- ---- all pages

pub placed_filled : (gs : List Page) (byte : ℕ) → placed (map (filled byte) gs) ≡ placed gs
unfolding filled
placed_filled [] byte = refl
placed_filled (g ∷ gs) byte = ap (λ l. (g.block, g.place) ∷ l) (placed_filled gs byte)

pub contents_filled : (gs : List Page) (byte : ℕ) → contents (map (filled byte) gs) ≡ map (λ (page : ℕ × List ℕ). (page.0, wiped byte)) (contents gs)
unfolding filled wiped
contents_filled [] byte = refl
contents_filled (g ∷ gs) byte = ap (λ l. (g.block, wiped byte) ∷ l) (contents_filled gs byte)

blocks_filled : (gs : List Page) (byte : ℕ) → blocks_of (map (filled byte) gs) ≡ blocks_of gs
unfolding filled
blocks_filled [] byte = refl
blocks_filled (g ∷ gs) byte = ap (λ l. g.block ∷ l) (blocks_filled gs byte)

wiped_size : (byte : ℕ) → length (wiped byte) ≡ 512
unfolding wiped
wiped_size byte = refl

each_filled : (gs : List Page) (byte : ℕ) → All IsChange (contents gs) → All IsChange (contents (map (filled byte) gs))
unfolding filled wiped
each_filled [] byte a = a
each_filled (g ∷ gs) byte a =
    All-cons IsChange (g.block, wiped byte) (contents (map (filled byte) gs)) (record { below = (All-head IsChange (g.block, g.bytes) (contents gs) a).below; sized = wiped_size byte })
    (each_filled gs byte (All-tail IsChange (g.block, g.bytes) (contents gs) a))

pub changes_filled : (gs : List Page) (byte : ℕ) → AreChanges (contents gs) → AreChanges (contents (map (filled byte) gs))
changes_filled gs byte a = record { each = each_filled gs byte a.each; once = subst (IsDistinct nat_eq) (sym (blocks_filled gs byte)) a.once }
