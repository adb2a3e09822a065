-- The layers stay sound.
use Rattle.std.proofs.Common.{◌≡◌, ℕ, ◌+◌, ◌-◌, ◌^◌, ◌<◌, ◌≤◌, Bool, true, false, ◌||◌, cond, min, List, [], ◌∷◌, ◌++◌, Some, None, length, nat_eq, is_some, refl, sym, ap, ◌∙◌, subst, arith, length-append}
use Rattle.std.proofs.lemmas.Bool.{true≢false}
use Rattle.std.proofs.lemmas.List.{length-map}
use Rattle.std.proofs.lemmas.List.Folds.{list_any-append}
use Rattle.std.specs.List.{list_any}
use Rattle.std.specs.Map.{lookup}
use Rattle.std.specs.Prelude.{◌≢◌, vec_len, vec_capacity}
use denote.RawPtr.{Ptr}
use Rattle.mb_frames.specs.Pages.{Page, page, Shelf, ring_at, with_ring, standing, Stands, contents, SameAt}
use Rattle.mb_frames.proofs.Pages.{stands_none, standing_cons}
use Rattle.mb_kinds.specs.Changed.{IsChange, AreChanges}
use Rattle.mb_layers.specs.Places.{placed, place_at}
use Rattle.mb_layers.specs.State.{sealed_ring, current_ring, begun, spare_of, IsOver, AreRings, AreTied, ListsBoth, IsSound}
use Rattle.mb_layers.specs.Tokens.{current_in, sealed_in, IsAged, SameAges}
use Rattle.mb_layers.specs.declared.tokens.Tokens.{Tokens}
use Rattle.mb_layers.proofs.Finds.{same_block, block_self}
use Rattle.mb_layers.proofs.Distinct.{changes_none, changes_one, changes_append}
use Rattle.mb_layers.proofs.Moved.{current_set, current_others, two_set, once_put, place_put, all_blocks}

-- other pages stand in the ring of the current ones
module _ (old new : Shelf) (tokens : Tokens) (both : List ℕ) (I : IsSound old tokens both) (gs : List Page) (e : new.rings ≡ with_ring old.rings 1 gs) where
  pub current_is : current_ring new ≡ gs
  current_is = ap (λ r. ring_at r 1) e ∙ current_set old.rings I.rings.two gs

  pub sealed_is : sealed_ring new ≡ sealed_ring old
  sealed_is = ap (λ r. ring_at r 0) e ∙ current_others old.rings I.rings.two gs

  pub two_is : length new.rings ≡ 2
  two_is = ap length e ∙ two_set old.rings I.rings.two gs 1

  -- their blocks and places are those of before
  module _ (pl : placed gs ≡ placed (current_ring old)) (ch : AreChanges (contents gs)) (st : (p : Ptr) → standing p new.rings ≡ standing p old.rings) where
    place_same : (block : ℕ) → place_at (current_ring old) block ≡ place_at (current_ring new) block
    place_same block = ap (lookup (nat_eq block)) (sym pl) ∙ ap (λ r. place_at r block) (sym current_is)

    pub begun_same : begun (current_ring new) ≡ begun (current_ring old)
    begun_same = ap (λ n. min 1 n) (ap length current_is ∙ sym (length-map gs (λ (g : Page). (g.block, g.place))) ∙ ap length pl ∙ length-map (current_ring old) (λ (g : Page). (g.block, g.place)))

    pub same_sound : IsSound new tokens both
    same_sound = record {
      rings = record {
        two = two_is;
        sealed = subst (λ r. AreChanges (contents r)) (sym sealed_is) I.rings.sealed;
        current = subst (λ r. AreChanges (contents r)) (sym current_is) ch;
        once = λ p. omega (arith, st p, I.rings.once p);
      };
      tied = record {
        current = λ block. I.tied.current block ∙ place_same block;
        sealed = λ block. I.tied.sealed block ∙ ap (λ r. place_at r block) (sym sealed_is);
        aged = I.tied.aged;
      };
      lists = record {
        each = λ block o s. I.lists.each block (ap is_some (place_same block) ∙ o) (ap (λ r. is_some (place_at r block)) (sym sealed_is) ∙ s);
        over = λ block m. ap is_some (sym (place_same block)) ∙ I.lists.over block m;
      };
      drops = omega (arith, I.drops, begun_same);
      seals = omega (arith, I.seals, begun_same);
    }

    pub same_spare : (room : ℕ) → new.spare ≡ old.spare → spare_of new tokens room ≡ spare_of old tokens room
    same_spare room s = omega (arith, s, begun_same)

pub any_push : (b : ℕ) (xs : List ℕ) (x : ℕ) → list_any (nat_eq b) (xs ++ x ∷ []) ≡ (list_any (nat_eq b) xs || nat_eq b x)
any_push b xs x = list_any-append (nat_eq b) xs (x ∷ []) ∙ ap (λ y. list_any (nat_eq b) xs || y) (or_false (nat_eq b x))
  where
    or_false : (y : Bool) → (y || false) ≡ y
    or_false true = refl
    or_false false = refl

pub or_left : (x y : Bool) → x ≡ true → (x || y) ≡ true
or_left true y e = refl
or_left false y e = absurd (true≢false (sym e))

pub or_right : (x y : Bool) → y ≡ true → (x || y) ≡ true
or_right true y e = refl
or_right false y e = e

pub or_either : (x y : Bool) → (x || y) ≡ true → y ≡ false → x ≡ true
or_either true y e f = refl
or_either false y e f = absurd (true≢false (sym e ∙ f))

-- a first page of a block is put behind the current ones
module _ (old new : Shelf) (tokens tokens' : Tokens) (both : List ℕ) (I : IsSound old tokens both) (t : Ptr) (block : ℕ) (b : List ℕ)
    (e : new.rings ≡ with_ring old.rings 1 (ring_at old.rings 1 ++ page t block b ∷ [])) (change : IsChange (block, b)) (none : current_in tokens block ≡ None)
    (st : Stands new.rings t) (others : (p : Ptr) → p ≢ t → SameAt old.rings new.rings p)
    (cur : (other : ℕ) → current_in tokens' other ≡ cond (nat_eq block other) (Some t) (current_in tokens other)) (sea : (other : ℕ) → sealed_in tokens' other ≡ sealed_in tokens other)
    (aged : IsAged tokens') (ages : SameAges tokens tokens') (room : ℕ) (some : 0 < spare_of old tokens room) where
  gs : List Page
  gs = ring_at old.rings 1 ++ page t block b ∷ []

  none_is : place_at (current_ring old) block ≡ None
  none_is = sym (I.tied.current block) ∙ none

  put_current : current_ring new ≡ ring_at old.rings 1 ++ page t block b ∷ []
  put_current = current_is old new tokens both I (ring_at old.rings 1 ++ page t block b ∷ []) e

  put_sealed : sealed_ring new ≡ sealed_ring old
  put_sealed = sealed_is old new tokens both I (ring_at old.rings 1 ++ page t block b ∷ []) e

  place_new : (other : ℕ) → place_at (current_ring new) other ≡ cond (nat_eq block other) (Some t) (place_at (current_ring old) other)
  place_new other = ap (λ r. place_at r other) put_current ∙ place_put (current_ring old) t block b other none_is

  put_rings : AreRings new.rings
  put_rings = record {
    two = two_is old new tokens both I (ring_at old.rings 1 ++ page t block b ∷ []) e;
    sealed = subst (λ r. AreChanges (contents r)) (sym put_sealed) I.rings.sealed;
    current = subst (λ r. AreChanges (contents r)) (sym put_current)
        (changes_append (current_ring old) (page t block b ∷ []) I.rings.current (changes_one (page t block b) change) (all_blocks (λ key. place_at (page t block b ∷ []) key ≡ None) (current_ring old) apart));
    once = once_put old.rings new.rings t I.rings.once st others;
  }
    where
      apart : (key : ℕ) → is_some (place_at (current_ring old) key) ≡ true → place_at (page t block b ∷ []) key ≡ None
      apart key has = (elim (nat_eq key block) as (λ y. nat_eq key block ≡ y → cond y (Some t) None ≡ None) [
        | true ↦ λ s. absurd (true≢false (sym has ∙ ap is_some (ap (place_at (current_ring old)) (same_block key block s) ∙ none_is)))
        | false ↦ λ s. refl
      ]) refl

  put_tied : AreTied new.rings tokens'
  put_tied = record {
    current = λ other. cur other ∙ ap (cond (nat_eq block other) (Some t)) (I.tied.current other) ∙ sym (place_new other);
    sealed = λ other. sea other ∙ I.tied.sealed other ∙ ap (λ r. place_at r other) (sym put_sealed);
    aged = aged;
  }

  begun_put : begun (current_ring new) ≡ 1
  begun_put = omega (arith, ap length put_current, length-append (current_ring old) (page t block b ∷ []))

  put_drops : vec_len tokens'.dropped + begun (current_ring new) ≤ vec_capacity tokens'.dropped
  put_drops = subst (λ (v : _). vec_len v + begun (current_ring new) ≤ vec_capacity v) (sym ages.dropped) (omega (arith, some, begun_put))

  put_seals : tokens'.present + begun (current_ring new) ≤ 2 ^ 64 - 1
  put_seals = omega (arith, some, begun_put, ages.present)

  sound_by : (list : List ℕ) → ListsBoth new.rings list → IsSound new tokens' list
  sound_by list l = record { rings = put_rings; tied = put_tied; lists = l; drops = put_drops; seals = put_seals }

  over_new : (other : ℕ) → IsOver old.rings other → IsOver new.rings other
  over_new other o = ap is_some (place_new other) ∙ (elim (nat_eq block other) as (λ y. is_some (cond y (Some t) (place_at (current_ring old) other)) ≡ true) [
    | true ↦ refl
    | false ↦ o
  ])

  over_old : (other : ℕ) → nat_eq block other ≡ false → IsOver new.rings other → IsOver old.rings other
  over_old other n o = ap (λ y. is_some (cond y (Some t) (place_at (current_ring old) other))) (sym n) ∙ ap is_some (sym (place_new other)) ∙ o

  sealed_old : (other : ℕ) → is_some (place_at (ring_at new.rings 0) other) ≡ true → is_some (place_at (ring_at old.rings 0) other) ≡ true
  sealed_old other s = ap (λ r. is_some (place_at r other)) (sym put_sealed) ∙ s

  -- the block has a sealed page too
  pub put_both : IsSound new tokens' (both ++ block ∷ [])
  put_both = sound_by (both ++ block ∷ []) (record { each = each; over = over })
    where
      each : (other : ℕ) → IsOver new.rings other → is_some (place_at (ring_at new.rings 0) other) ≡ true → list_any (nat_eq other) (both ++ block ∷ []) ≡ true
      each other o s = any_push other both block ∙ (elim (nat_eq block other) as (λ y. nat_eq block other ≡ y → (list_any (nat_eq other) both || nat_eq other block) ≡ true) [
        | true ↦ λ z. or_right (list_any (nat_eq other) both) (nat_eq other block) (ap (nat_eq other) (same_block block other z) ∙ block_self other)
        | false ↦ λ z. or_left (list_any (nat_eq other) both) (nat_eq other block) (I.lists.each other (over_old other z o) (sealed_old other s))
      ]) refl

      over : (other : ℕ) → list_any (nat_eq other) (both ++ block ∷ []) ≡ true → IsOver new.rings other
      over other m = (elim (nat_eq other block) as (λ y. nat_eq other block ≡ y → IsOver new.rings other) [
        | true ↦ λ z. ap is_some (place_new other) ∙ ap (λ k. is_some (cond (nat_eq block k) (Some t) (place_at (current_ring old) other))) (same_block other block z) ∙ ap (λ y. is_some (cond y (Some t) (place_at (current_ring old) other))) (block_self block)
        | false ↦ λ z. over_new other (I.lists.over other (or_either (list_any (nat_eq other) both) (nat_eq other block) (sym (any_push other both block) ∙ m) z))
      ]) refl

  -- it has none
  pub put_one : is_some (sealed_in tokens block) ≡ false → IsSound new tokens' both
  put_one lone = sound_by both (record {
    each = λ other o s. (elim (nat_eq block other) as (λ y. nat_eq block other ≡ y → list_any (nat_eq other) both ≡ true) [
      | true ↦ λ z. absurd (true≢false (sym (sealed_old other s) ∙ ap (λ k. is_some (place_at (ring_at old.rings 0) k)) (sym (same_block block other z)) ∙ ap is_some (sym (I.tied.sealed block)) ∙ lone))
      | false ↦ λ z. I.lists.each other (over_old other z o) (sealed_old other s)
    ]) refl;
    over = λ other m. over_new other (I.lists.over other m);
  })

-- the current pages are dropped
pub dropped_sound : (old new : Shelf) (tokens tokens' : Tokens) (both : List ℕ) → IsSound old tokens both → new.rings ≡ with_ring old.rings 1 [] → ((p : Ptr) → standing p new.rings ≤ 1)
    → ((block : ℕ) → current_in tokens' block ≡ None) → ((block : ℕ) → sealed_in tokens' block ≡ sealed_in tokens block) → IsAged tokens'
    → vec_len tokens'.dropped ≤ vec_capacity tokens'.dropped → tokens'.present ≤ 2 ^ 64 - 1 → (list : List ℕ) → list ≡ [] → IsSound new tokens' list
dropped_sound old new tokens tokens' both I e once cur sea aged drops seals list l =
    let current = current_is old new tokens both I [] e in let sealed = sealed_is old new tokens both I [] e in
    let begun_none : begun (current_ring new) ≡ 0 = omega (arith, ap length current) in
    record {
      rings = record {
        two = two_is old new tokens both I [] e;
        sealed = subst (λ r. AreChanges (contents r)) (sym sealed) I.rings.sealed;
        current = subst (λ r. AreChanges (contents r)) (sym current) changes_none;
        once = once;
      };
      tied = record {
        current = λ block. cur block ∙ ap (λ r. place_at r block) (sym current);
        sealed = λ block. sea block ∙ I.tied.sealed block ∙ ap (λ r. place_at r block) (sym sealed);
        aged = aged;
      };
      lists = record {
        each = λ block o s. absurd (true≢false (sym o ∙ ap (λ r. is_some (place_at r block)) current));
        over = λ block m. absurd (true≢false (sym m ∙ ap (list_any (nat_eq block)) l));
      };
      drops = omega (arith, drops, begun_none);
      seals = omega (arith, seals, begun_none);
    }

standing_nil : (p : Ptr) → standing p [] ≡ 0
unfolding standing Rattle.mb_frames.specs.Counts.total
standing_nil p = refl

-- two empty rings
pub new_sound : (new : Shelf) (tokens : Tokens) (both : List ℕ) → new.rings ≡ [] ∷ [] ∷ [] → ((block : ℕ) → current_in tokens block ≡ None) → ((block : ℕ) → sealed_in tokens block ≡ None) → IsAged tokens
    → vec_len tokens.dropped ≤ vec_capacity tokens.dropped → tokens.present ≤ 2 ^ 64 - 1 → both ≡ [] → IsSound new tokens both
new_sound new tokens both e cur sea aged drops seals l =
    let current : current_ring new ≡ [] = ap (λ r. ring_at r 1) e in
    let sealed : sealed_ring new ≡ [] = ap (λ r. ring_at r 0) e in
    let begun_none : begun (current_ring new) ≡ 0 = omega (arith, ap length current) in
    record {
      rings = record {
        two = ap length e;
        sealed = subst (λ r. AreChanges (contents r)) (sym sealed) changes_none;
        current = subst (λ r. AreChanges (contents r)) (sym current) changes_none;
        once = λ p. omega (arith, ap (standing p) e, standing_cons p [] ([] ∷ []), standing_cons p [] [], standing_nil p, stands_none p);
      };
      tied = record {
        current = λ block. cur block ∙ ap (λ r. place_at r block) (sym current);
        sealed = λ block. sea block ∙ ap (λ r. place_at r block) (sym sealed);
        aged = aged;
      };
      lists = record {
        each = λ block o s. absurd (true≢false (sym o ∙ ap (λ r. is_some (place_at r block)) current));
        over = λ block m. absurd (true≢false (sym m ∙ ap (list_any (nat_eq block)) l));
      };
      drops = omega (arith, drops, begun_none);
      seals = omega (arith, seals, begun_none);
    }
