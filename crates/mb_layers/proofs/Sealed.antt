-- The current pages become sealed ones.
use Rattle.std.proofs.Common.{◌≡◌, ℕ, ◌+◌, ◌-◌, ◌*◌, ◌^◌, ◌≤◌, true, false, cond, min, List, [], ◌∷◌, ◌++◌, Option, Some, None, length, slice_get, nat_eq, is_some, IfSome, refl, sym, ap, ◌∙◌, subst, arith}
use Rattle.std.proofs.lemmas.Bool.{true≢false}
use Rattle.std.proofs.lemmas.List.{map-append}
use Rattle.std.specs.List.{list_any}
use Rattle.std.specs.Option.{option_or}
use Rattle.std.specs.Map.{remove_entry}
use Rattle.std.specs.Prelude.{vec_len, vec_capacity}
use denote.RawPtr.{Ptr}
use Rattle.indexmap.specs.IndexMap.{spare}
use Rattle.mb_kinds.specs.Image.{Image}
use Rattle.mb_frames.specs.Pages.{Page, Shelf, ring_at, with_ring, standing, contents}
use Rattle.mb_kinds.specs.Changed.{AreChanges}
use Rattle.mb_layers.specs.Pages.{page_at, under, count_covered}
use Rattle.mb_layers.specs.Places.{place_at}
use Rattle.mb_layers.specs.State.{sealed_ring, current_ring, begun, spare_of, IsOver, AreRings, AreTied, ListsBoth, IsSound}
use Rattle.mb_layers.specs.Tokens.{current_in, sealed_in, IsAged, SameAges}
use Rattle.mb_layers.specs.declared.tokens.Tokens.{Tokens}
use Rattle.mb_layers.proofs.Covers.{under_swap, under_cut, one_if, cut_count}
use Rattle.mb_layers.proofs.Finds.{block_self, block_swap, page_none, is_over}
use Rattle.mb_layers.proofs.Distinct.{changes_none, changes_append}
use Rattle.mb_layers.proofs.Moved.{current_set, sealed_set, sealed_others, two_set, all_blocks, place_joined}
use Rattle.mb_layers.proofs.Sound.{any_push, or_left, or_right, or_either}

-- the block that leaves the list
pub popped_over : (rings : List (List Page)) (both left : List ℕ) (block : ℕ) → ListsBoth rings both → both ≡ left ++ block ∷ [] → IsOver rings block
popped_over rings both left block L e = L.over block (ap (list_any (nat_eq block)) e ∙ any_push block left block ∙ or_right (list_any (nat_eq block) left) (nat_eq block block) (block_self block))

-- its sealed page is gone
pub popped : (rings rings' : List (List Page)) (both left : List ℕ) (block : ℕ) → ListsBoth rings both → both ≡ left ++ block ∷ [] → ring_at rings' 1 ≡ ring_at rings 1
    → ((other : ℕ) → place_at (ring_at rings' 0) other ≡ cond (nat_eq block other) None (place_at (ring_at rings 0) other)) → ListsBoth rings' left
popped rings rings' both left block L e same places = record { each = each; over = over }
  where
    each : (other : ℕ) → IsOver rings' other → is_some (place_at (ring_at rings' 0) other) ≡ true → list_any (nat_eq other) left ≡ true
    each other o s = (elim (nat_eq block other) as (λ y. nat_eq block other ≡ y → is_some (cond y None (place_at (ring_at rings 0) other)) ≡ true → list_any (nat_eq other) left ≡ true) [
      | true ↦ λ z k. absurd (true≢false (sym k))
      | false ↦ λ z k. or_either (list_any (nat_eq other) left) (nat_eq other block) (sym (ap (list_any (nat_eq other)) e ∙ any_push other left block) ∙ L.each other (ap (λ r. is_some (place_at r other)) (sym same) ∙ o) k) (block_swap other block ∙ z)
    ]) refl (ap is_some (sym (places other)) ∙ s)

    over : (other : ℕ) → list_any (nat_eq other) left ≡ true → IsOver rings' other
    over other m =
        ap (λ r. is_some (place_at r other)) same ∙ L.over other (ap (list_any (nat_eq other)) e ∙ any_push other left block ∙ or_left (list_any (nat_eq other) left) (nat_eq other block) m)

-- and what is read under both lists stays
pub covered : (image : Image) (rings rings' : List (List Page)) (block : ℕ) → ring_at rings' 1 ≡ ring_at rings 1 → contents (ring_at rings' 0) ≡ remove_entry (nat_eq block) (contents (ring_at rings 0)) → IsOver rings block
    → under (under image (contents (ring_at rings' 0))) (contents (ring_at rings' 1)) ≡ under (under image (contents (ring_at rings 0))) (contents (ring_at rings 1))
covered image rings rings' block same cut over =
    (λ i. under (under image (cut i)) (contents (same i))) ∙ under_cut image (contents (ring_at rings 0)) (contents (ring_at rings 1)) block (is_over (ring_at rings 1) block ∙ over)

-- its link writes are counted: at most eight where it had a sealed page
pub counted : (rings rings' : List (List Page)) (block : ℕ) (writes writes' most : ℕ) → ring_at rings' 1 ≡ ring_at rings 1 → contents (ring_at rings' 0) ≡ remove_entry (nat_eq block) (contents (ring_at rings 0)) → IsOver rings block
    → writes' ≤ writes + 8 * cond (is_some (place_at (ring_at rings 0) block)) 1 0 → writes + 8 * count_covered (contents (ring_at rings 0)) (contents (ring_at rings 1)) ≤ most
    → writes' + 8 * count_covered (contents (ring_at rings' 0)) (contents (ring_at rings' 1)) ≤ most
counted rings rings' block writes writes' most same cut over fewer so_far =
    let now : count_covered (contents (ring_at rings' 0)) (contents (ring_at rings' 1)) ≡ count_covered (remove_entry (nat_eq block) (contents (ring_at rings 0))) (contents (ring_at rings 1)) = (λ i. count_covered (cut i) (contents (same i))) in
    let had : one_if (is_some (page_at (contents (ring_at rings 0)) block)) ≡ one_if (is_some (place_at (ring_at rings 0) block)) = ap one_if (is_over (ring_at rings 0) block) in
    omega (arith, now, had, cut_count (contents (ring_at rings 0)) (contents (ring_at rings 1)) block (is_over (ring_at rings 1) block ∙ over), fewer, so_far)

-- a ring that has a first page
pub begun_one : {X : Type 0} (r : Option X) (f : X → ℕ × List ℕ) (rings : List (List Page)) → is_some r ≡ true → IfSome r (λ x. slice_get (contents (ring_at rings 1)) 0 ≡ Some (f x)) → begun (ring_at rings 1) ≡ 1
begun_one None f rings n h = absurd (true≢false (sym n))
begun_one (Some x) f rings n h = by (ring_at rings 1) h
  where
    by : (gs : List Page) → slice_get (contents gs) 0 ≡ Some (f x) → begun gs ≡ 1
    by [] e = absurd (clash e)
      where
        clash : None ≡ Some (f x) → ⊥
        clash z = cc
    by (g ∷ gs) e = omega arith

pub ages_len : (old new : Tokens) → SameAges old new → vec_capacity new.dropped - vec_len new.dropped ≡ vec_capacity old.dropped - vec_len old.dropped
ages_len old new a = λ i. vec_capacity (a.dropped i) - vec_len (a.dropped i)

pub seal_same : (old new : Tokens) → new.map ≡ old.map → new.dropped ≡ old.dropped → (spare new.map ≡ spare old.map) × (vec_capacity new.dropped - vec_len new.dropped ≡ vec_capacity old.dropped - vec_len old.dropped)
seal_same old new m d = ((λ i. spare (m i)), (λ i. vec_capacity (d i) - vec_len (d i)))

-- the current pages stand behind the sealed ones
module _ (old new : Shelf) (R : AreRings old.rings) (e : new.rings ≡ with_ring (with_ring old.rings 1 []) 0 (ring_at old.rings 0 ++ ring_at old.rings 1)) where
  two_mid : length (with_ring old.rings 1 []) ≡ 2
  two_mid = two_set old.rings R.two [] 1

  sealed_now : sealed_ring new ≡ ring_at old.rings 0 ++ ring_at old.rings 1
  sealed_now = ap (λ r. ring_at r 0) e ∙ sealed_set (with_ring old.rings 1 []) two_mid (ring_at old.rings 0 ++ ring_at old.rings 1)

  current_now : current_ring new ≡ []
  current_now = ap (λ r. ring_at r 1) e ∙ sealed_others (with_ring old.rings 1 []) two_mid (ring_at old.rings 0 ++ ring_at old.rings 1) ∙ current_set old.rings R.two []

  begun_now : begun (current_ring new) ≡ 0
  begun_now = omega (arith, ap length current_now)

  pub sealed_begun : begun (current_ring new) ≡ 0
  sealed_begun = begun_now

pub sealed_view : (image : Image) (old new : Shelf) → AreRings old.rings → ((block : ℕ) → IsOver old.rings block → place_at (ring_at old.rings 0) block ≡ None) → new.rings ≡ with_ring (with_ring old.rings 1 []) 0 (ring_at old.rings 0 ++ ring_at old.rings 1)
    → under image (contents (sealed_ring new)) ≡ under (under image (contents (ring_at old.rings 0))) (contents (ring_at old.rings 1))
sealed_view image old new R apart e =
    ap (λ l. under image (contents l)) (sealed_now old new R e) ∙ ap (under image) (map-append (λ (g : Page). (g.block, g.bytes)) (ring_at old.rings 0) (ring_at old.rings 1))
    ∙ under_swap image (contents (ring_at old.rings 0)) (contents (ring_at old.rings 1)) (λ block o. page_none (ring_at old.rings 0) block (apart block (sym (is_over (ring_at old.rings 1) block) ∙ o)))

pub sealed_sound : (old new : Shelf) (R : AreRings old.rings) (tokens tokens' : Tokens) → AreTied old.rings tokens → ((block : ℕ) → IsOver old.rings block → place_at (ring_at old.rings 0) block ≡ None)
    → new.rings ≡ with_ring (with_ring old.rings 1 []) 0 (ring_at old.rings 0 ++ ring_at old.rings 1) → ((p : Ptr) → standing p new.rings ≡ standing p old.rings)
    → ((block : ℕ) → current_in tokens' block ≡ None) → ((block : ℕ) → sealed_in tokens' block ≡ option_or (current_in tokens block) (sealed_in tokens block)) → IsAged tokens'
    → vec_len tokens'.dropped ≤ vec_capacity tokens'.dropped → tokens'.present ≤ 2 ^ 64 - 1 → (list : List ℕ) → list ≡ [] → IsSound new tokens' list
sealed_sound old new R tokens tokens' T apart e st cur sea aged drops seals list l =
    let sealed = sealed_now old new R e in let current = current_now old new R e in
    record {
      rings = record {
        two = ap length e ∙ two_set (with_ring old.rings 1 []) (two_mid old new R e) (ring_at old.rings 0 ++ ring_at old.rings 1) 0;
        sealed = subst (λ r. AreChanges (contents r)) (sym sealed) (changes_append (ring_at old.rings 0) (ring_at old.rings 1) R.sealed R.current (all_blocks (λ key. place_at (ring_at old.rings 1) key ≡ None) (ring_at old.rings 0) off));
        current = subst (λ r. AreChanges (contents r)) (sym current) changes_none;
        once = λ p. omega (arith, st p, R.once p);
      };
      tied = record {
        current = λ block. cur block ∙ ap (λ r. place_at r block) (sym current);
        sealed = λ block.
            sea block ∙ (λ i. option_or (T.current block i) (T.sealed block i)) ∙ sym (place_joined (ring_at old.rings 0) (ring_at old.rings 1) block (apart block)) ∙ ap (λ r. place_at r block) (sym sealed);
        aged = aged;
      };
      lists = record {
        each = λ block o s. absurd (true≢false (sym o ∙ ap (λ r. is_some (place_at r block)) current));
        over = λ block m. absurd (true≢false (sym m ∙ ap (list_any (nat_eq block)) l));
      };
      drops = omega (arith, drops, begun_now old new R e);
      seals = omega (arith, seals, begun_now old new R e);
    }
  where
    off_by : (key : ℕ) (x : Option Ptr) → place_at (ring_at old.rings 1) key ≡ x → is_some (place_at (ring_at old.rings 0) key) ≡ true → x ≡ None
    off_by key None z h = refl
    off_by key (Some x) z h = absurd (true≢false (sym h ∙ ap is_some (apart key (ap is_some z))))

    off : (key : ℕ) → is_some (place_at (ring_at old.rings 0) key) ≡ true → place_at (ring_at old.rings 1) key ≡ None
    off key h = off_by key (place_at (ring_at old.rings 1) key) refl h

-- ---- the room

min_least : (a b c d : ℕ) → a ≤ c → b ≤ d → min a b ≤ min c d
min_least a b c d e f = omega (arith, e, f)

pub spare_least : (old new : Shelf) (tokens tokens' : Tokens) (room room' : ℕ) → old.spare ≤ new.spare → spare tokens.map ≤ spare tokens'.map → room ≤ room'
    → min (vec_capacity tokens.dropped - vec_len tokens.dropped) (2 ^ 64 - 1 - tokens.present) - begun (current_ring old) ≤ min (vec_capacity tokens'.dropped - vec_len tokens'.dropped) (2 ^ 64 - 1 - tokens'.present) - begun (current_ring new)
    → spare_of old tokens room ≤ spare_of new tokens' room'
spare_least old new tokens tokens' room room' a b c d = min_least _ _ _ _ (min_least _ _ _ _ (omega arith) a) (min_least _ _ _ _ (min_least _ _ _ _ b c) d)

-- a generation more is sealed
pub one_later : (d p g d' p' g' : ℕ) → d' ≡ d → p' ≡ p + 1 → g ≡ 1 → g' ≡ 0 → min d (2 ^ 64 - 1 - p) - g ≤ min d' (2 ^ 64 - 1 - p') - g'
one_later d p g d' p' g' ed ep eg eg' = omega (arith, ed, ep, eg, eg')
