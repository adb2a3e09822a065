-- The page of a block in a ring.
use Rattle.std.proofs.Common.{◌≡◌, ℕ, true, false, cond, List, [], ◌∷◌, ◌++◌, Some, None, nat_eq, is_some, refl, sym, ap, ◌∙◌, arith}
use Rattle.std.proofs.lemmas.Bool.Decides.{nat_tests}
use Rattle.std.specs.Map.{remove_entry}
use denote.RawPtr.{Ptr}
use Rattle.mb_frames.specs.Pages.{Page, contents}
use Rattle.mb_layers.specs.Pages.{page_at}
use Rattle.mb_layers.specs.Places.{place_at}

pub same_block : (b c : ℕ) → nat_eq b c ≡ true → b ≡ c
same_block b c e = grind (arith, nat_tests)

pub block_self : (b : ℕ) → nat_eq b b ≡ true
block_self b = grind (arith, nat_tests)

pub block_swap : (b c : ℕ) → nat_eq b c ≡ nat_eq c b
block_swap b c = grind (arith, nat_tests)

-- a page of the block, with those before and behind it
pub record Here (ring : List Page) (block : ℕ) (p : Ptr) : Type 0 where
  pub before : List Page
  pub g : Page
  pub behind : List Page
  pub cut : ring ≡ before ++ g ∷ behind
  pub is_of : g.block ≡ block
  pub place : g.place ≡ p
  pub fresh : place_at before block ≡ None

pub here : (ring : List Page) (block : ℕ) (p : Ptr) → place_at ring block ≡ Some p → Here ring block p
here [] block p e = cc
here (g ∷ gs) block p e = (elim (nat_eq block g.block) as (λ y. nat_eq block g.block ≡ y → cond y (Some g.place) (place_at gs block) ≡ Some p → Here (g ∷ gs) block p) [
  | true ↦ λ s z. record { before = []; g = g; behind = gs; cut = refl; is_of = sym (same_block block g.block s); place = cc; fresh = refl }
  | false ↦ λ s z.
      let there = here gs block p z in
      record {
        before = g ∷ there.before;
        g = there.g;
        behind = there.behind;
        cut = ap (λ l. g ∷ l) there.cut;
        is_of = there.is_of;
        place = there.place;
        fresh = ap (λ y. cond y (Some g.place) (place_at there.before block)) s ∙ there.fresh;
      }
]) refl e

pub page_past : (before rest : List Page) (block : ℕ) → place_at before block ≡ None → page_at (contents (before ++ rest)) block ≡ page_at (contents rest) block
page_past [] rest block e = refl
page_past (x ∷ xs) rest block e =
    (elim (nat_eq block x.block) as (λ y. cond y (Some x.place) (place_at xs block) ≡ None → cond y (Some x.bytes) (page_at (contents (xs ++ rest)) block) ≡ page_at (contents rest) block) [
      | true ↦ λ z. absurd cc
      | false ↦ λ z. page_past xs rest block z
    ]) e

-- the bytes of a block's page
pub page_none : (ring : List Page) (block : ℕ) → place_at ring block ≡ None → page_at (contents ring) block ≡ None
page_none [] block e = refl
page_none (x ∷ xs) block e = (elim (nat_eq block x.block) as (λ y. cond y (Some x.place) (place_at xs block) ≡ None → cond y (Some x.bytes) (page_at (contents xs) block) ≡ None) [
  | true ↦ λ z. absurd cc
  | false ↦ λ z. page_none xs block z
]) e

pub page_here : (ring : List Page) (block : ℕ) (p : Ptr) (h : Here ring block p) → page_at (contents ring) block ≡ Some h.g.bytes
page_here ring block p h =
    ap (λ l. page_at (contents l) block) h.cut ∙ page_past h.before (h.g ∷ h.behind) block h.fresh
    ∙ ap (λ y. cond y (Some h.g.bytes) (page_at (contents h.behind) block)) (ap (nat_eq block) h.is_of ∙ block_self block)

pub is_over : (ring : List Page) (block : ℕ) → is_some (page_at (contents ring) block) ≡ is_some (place_at ring block)
is_over [] block = refl
is_over (x ∷ xs) block = (elim (nat_eq block x.block) as (λ y. is_some (cond y (Some x.bytes) (page_at (contents xs) block)) ≡ is_some (cond y (Some x.place) (place_at xs block))) [
  | true ↦ refl
  | false ↦ is_over xs block
])

pub place_cut : (before : List Page) (g : Page) (behind : List Page) (block other : ℕ) → g.block ≡ block → place_at before block ≡ None → place_at behind block ≡ None
    → place_at (before ++ behind) other ≡ cond (nat_eq block other) None (place_at (before ++ g ∷ behind) other)
place_cut [] g behind block other is none gone = (elim (nat_eq block other) as (λ y. nat_eq block other ≡ y → place_at behind other ≡ cond y None (cond (nat_eq other g.block) (Some g.place) (place_at behind other))) [
  | true ↦ λ e. ap (place_at behind) (sym (same_block block other e)) ∙ gone
  | false ↦ λ e. sym (ap (λ y. cond y (Some g.place) (place_at behind other)) (ap (nat_eq other) is ∙ block_swap other block ∙ e))
]) refl
place_cut (x ∷ xs) g behind block other is none gone =
    (elim (nat_eq block x.block) as (λ y. nat_eq block x.block ≡ y → cond y (Some x.place) (place_at xs block) ≡ None
    → cond (nat_eq other x.block) (Some x.place) (place_at (xs ++ behind) other) ≡ cond (nat_eq block other) None (cond (nat_eq other x.block) (Some x.place) (place_at (xs ++ g ∷ behind) other))) [
      | true ↦ λ e z. absurd cc
      | false ↦ λ e z. (elim (nat_eq other x.block) as (λ y. nat_eq other x.block ≡ y → cond y (Some x.place) (place_at (xs ++ behind) other) ≡ cond (nat_eq block other) None (cond y (Some x.place) (place_at (xs ++ g ∷ behind) other))) [
        | true ↦ λ f. sym (ap (λ y. cond y None (Some x.place)) (ap (nat_eq block) (same_block other x.block f) ∙ e))
        | false ↦ λ f. place_cut xs g behind block other is z gone
      ]) refl
    ]) refl none

pub contents_cut : (before : List Page) (g : Page) (behind : List Page) (block : ℕ) → g.block ≡ block → place_at before block ≡ None → contents (before ++ behind) ≡ remove_entry (nat_eq block) (contents (before ++ g ∷ behind))
contents_cut [] g behind block is none = sym (ap (λ y. cond y (contents behind) ((g.block, g.bytes) ∷ remove_entry (nat_eq block) (contents behind))) (ap (nat_eq block) is ∙ block_self block))
contents_cut (x ∷ xs) g behind block is none = (elim (nat_eq block x.block) as (λ y. cond y (Some x.place) (place_at xs block) ≡ None
    → (x.block, x.bytes) ∷ contents (xs ++ behind) ≡ cond y (contents (xs ++ g ∷ behind)) ((x.block, x.bytes) ∷ remove_entry (nat_eq block) (contents (xs ++ g ∷ behind)))) [
      | true ↦ λ z. absurd cc
      | false ↦ λ z. ap (λ l. (x.block, x.bytes) ∷ l) (contents_cut xs g behind block is z)
    ]) none

-- a block that has none
pub contents_none : (ring : List Page) (block : ℕ) → place_at ring block ≡ None → contents ring ≡ remove_entry (nat_eq block) (contents ring)
contents_none [] block none = refl
contents_none (x ∷ xs) block none = (elim (nat_eq block x.block) as (λ y. cond y (Some x.place) (place_at xs block) ≡ None → (x.block, x.bytes) ∷ contents xs ≡ cond y (contents xs) ((x.block, x.bytes) ∷ remove_entry (nat_eq block) (contents xs))) [
  | true ↦ λ z. absurd cc
  | false ↦ λ z. ap (λ l. (x.block, x.bytes) ∷ l) (contents_none xs block z)
]) none
