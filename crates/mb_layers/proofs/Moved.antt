-- What a call of the rings leaves of the places of blocks.
use Rattle.std.proofs.Common.{◌≡◌, ℕ, ◌<◌, ◌≤◌, true, false, cond, List, [], ◌∷◌, ◌++◌, Option, Some, None, length, map, nat_eq, is_some, refl, sym, ap, ◌∙◌, subst, arith, length-set, get_or-set_same, get_or-set_other}
use Rattle.std.proofs.lemmas.Bool.{true≢false}
use Rattle.std.specs.Prelude.{◌≢◌}
use Rattle.std.specs.Option.{option_or}
use Rattle.std.specs.List.{AllByRecursion}
use Rattle.std.specs.Map.{remove_entry}
use denote.RawPtr.{Ptr}
use Rattle.mb_frames.specs.Pointers.{same_ptr}
use Rattle.mb_frames.specs.Pages.{Page, page, ring_at, with_ring, stands_in, standing, Stands, contents, bytes_of, without, rewritten, replaced, SameAt}
use Rattle.mb_frames.proofs.Pointers.{same_ptr_eq, same_ptr_refl}
use Rattle.mb_frames.proofs.Chains.{one, one_self}
use Rattle.mb_frames.proofs.Pages.{stands_append, stands_cons, stands_none, standing_at, standing_set, without_here, without_set, replaced_set}
use Rattle.mb_frames.proofs.Callers.{stands_here, read_here}
use Rattle.mb_kinds.specs.Changed.{AreChanges}
use Rattle.indexmap.specs.IndexMap.{insert_entry}
use Rattle.mb_layers.specs.Pages.{page_at}
use Rattle.mb_layers.specs.Places.{place_at}
use Rattle.mb_layers.specs.State.{AreRings}
use Rattle.mb_layers.proofs.Finds.{Here, here, same_block, block_self, block_swap, place_cut, contents_cut, page_none, page_here}
use Rattle.mb_layers.proofs.Replaced.{contents_written}
use Rattle.mb_layers.proofs.Distinct.{blocks_of, distinct_cut, changes_cut}

-- one of two rings gets other pages
module _ (rs : List (List Page)) (two : length rs ≡ 2) (gs : List Page) where
  pub current_set : ring_at (with_ring rs 1 gs) 1 ≡ gs
  current_set = get_or-set_same rs 1 gs [] (omega (arith, two))

  pub current_others : ring_at (with_ring rs 1 gs) 0 ≡ ring_at rs 0
  current_others = get_or-set_other rs 1 0 gs [] (λ e. absurd (omega (arith, e)))

  pub sealed_set : ring_at (with_ring rs 0 gs) 0 ≡ gs
  sealed_set = get_or-set_same rs 0 gs [] (omega (arith, two))

  pub sealed_others : ring_at (with_ring rs 0 gs) 1 ≡ ring_at rs 1
  sealed_others = get_or-set_other rs 0 1 gs [] (λ e. absurd (omega (arith, e)))

  pub two_set : (k : ℕ) → length (with_ring rs k gs) ≡ 2
  two_set k = length-set rs k gs ∙ two

-- the page of a block, in the ring k
module _ (rs : List (List Page)) (R : AreRings rs) (k : ℕ) (w : k < 2) (block : ℕ) (p : Ptr) (e : place_at (ring_at rs k) block ≡ Some p) where
  abbrev pub H : Here (ring_at rs k) block p
  H = here (ring_at rs k) block p e

  within : k < length rs
  within = omega (arith, w, R.two)

  pub token_stands : Stands rs p
  token_stands = stands_here p H.before H.g H.behind H.place rs k within H.cut (R.once p)

  pub token_bytes : bytes_of p rs ≡ H.g.bytes
  token_bytes = read_here p H.before H.g H.behind H.place (λ (g : Page). g.bytes) [] rs k within H.cut (R.once p)

-- no place stands twice, after a page was put
pub once_put : (old new : List (List Page)) (t : Ptr) → ((p : Ptr) → standing p old ≤ 1) → Stands new t → ((p : Ptr) → p ≢ t → SameAt old new p) → (p : Ptr) → standing p new ≤ 1
once_put old new t once st others p = (elim (same_ptr p t) as (λ y. same_ptr p t ≡ y → standing p new ≤ 1) [
  | true ↦ λ e. subst (λ q. standing q new ≤ 1) (sym (same_ptr_eq p t e)) (omega (arith, st))
  | false ↦ λ e. let s = (others p (λ same. true≢false (sym (ap (λ q. same_ptr q t) same ∙ same_ptr_refl t) ∙ e))).stands in omega (arith, s, once p)
]) refl

-- or taken out
pub once_taken : (old new : List (List Page)) (t : Ptr) → ((p : Ptr) → standing p old ≤ 1) → standing t new ≡ 0 → ((p : Ptr) → p ≢ t → SameAt old new p) → (p : Ptr) → standing p new ≤ 1
once_taken old new t once gone others p = (elim (same_ptr p t) as (λ y. same_ptr p t ≡ y → standing p new ≤ 1) [
  | true ↦ λ e. subst (λ q. standing q new ≤ 1) (sym (same_ptr_eq p t e)) (omega (arith, gone))
  | false ↦ λ e. let s = (others p (λ same. true≢false (sym (ap (λ q. same_ptr q t) same ∙ same_ptr_refl t) ∙ e))).stands in omega (arith, s, once p)
]) refl

-- or a ring was emptied
pub once_emptied : (rs : List (List Page)) (k : ℕ) → k < length rs → ((p : Ptr) → standing p rs ≤ 1) → (p : Ptr) → standing p (with_ring rs k []) ≤ 1
once_emptied rs k w once p = omega (arith, standing_set p rs k [] w, stands_none p, once p)

-- a block's place, after its first page was put
pub place_put : (gs : List Page) (t : Ptr) (block : ℕ) (b : List ℕ) (other : ℕ) → place_at gs block ≡ None → place_at (gs ++ page t block b ∷ []) other ≡ cond (nat_eq block other) (Some t) (place_at gs other)
place_put [] t block b other none = ap (λ y. cond y (Some t) None) (block_swap other block)
place_put (x ∷ xs) t block b other none =
    (elim (nat_eq block x.block) as (λ y. nat_eq block x.block ≡ y → cond y (Some x.place) (place_at xs block) ≡ None
    → cond (nat_eq other x.block) (Some x.place) (place_at (xs ++ page t block b ∷ []) other) ≡ cond (nat_eq block other) (Some t) (cond (nat_eq other x.block) (Some x.place) (place_at xs other))) [
      | true ↦ λ e z. absurd cc
      | false ↦ λ e z. (elim (nat_eq other x.block) as (λ y. nat_eq other x.block ≡ y → cond y (Some x.place) (place_at (xs ++ page t block b ∷ []) other) ≡ cond (nat_eq block other) (Some t) (cond y (Some x.place) (place_at xs other))) [
        | true ↦ λ f. sym (ap (λ y. cond y (Some t) (Some x.place)) (ap (nat_eq block) (same_block other x.block f) ∙ e))
        | false ↦ λ f. place_put xs t block b other z
      ]) refl
    ]) refl none

-- the page of a block leaves the first ring
module _ (rs rs' : List (List Page)) (R : AreRings rs) (block : ℕ) (p : Ptr) (e : place_at (ring_at rs 0) block ≡ Some p) (is : rs' ≡ map (without p) rs) where
  h : Here (ring_at rs 0) block p
  h = here (ring_at rs 0) block p e

  w0 : 0 < length rs
  w0 = omega (arith, R.two)

  at_most : stands_in p (h.before ++ h.g ∷ h.behind) ≤ 1
  at_most = omega (arith, R.once p, standing_at p rs 0 w0, ap (stands_in p) h.cut)

  at_least : 0 < stands_in p (ring_at rs 0)
  at_least = let s : one h.g.place p ≡ 1 = ap (λ q. one q p) h.place ∙ one_self p in omega (arith, s, ap (stands_in p) h.cut, stands_append p h.before (h.g ∷ h.behind), stands_cons p h.g h.behind)

  taken_is : rs' ≡ with_ring rs 0 (h.before ++ h.behind)
  taken_is = is ∙ without_set p rs 0 (h.before ++ h.behind) w0 (ap (without p) h.cut ∙ without_here p h.g h.before h.behind h.place at_most) at_least (R.once p)

  distinct : place_at h.behind block ≡ None
  distinct = ap (place_at h.behind) (sym h.is_of) ∙ (distinct_cut h.before h.g h.behind (subst (λ l. AreChanges (contents l)) h.cut R.sealed).once).1

  pub taken_two : length rs' ≡ 2
  taken_two = ap length taken_is ∙ two_set rs R.two (h.before ++ h.behind) 0

  pub taken_current : ring_at rs' 1 ≡ ring_at rs 1
  taken_current = ap (λ r. ring_at r 1) taken_is ∙ sealed_others rs R.two (h.before ++ h.behind)

  taken_sealed : ring_at rs' 0 ≡ h.before ++ h.behind
  taken_sealed = ap (λ r. ring_at r 0) taken_is ∙ sealed_set rs R.two (h.before ++ h.behind)

  pub taken_contents : contents (ring_at rs' 0) ≡ remove_entry (nat_eq block) (contents (ring_at rs 0))
  taken_contents = ap contents taken_sealed ∙ contents_cut h.before h.g h.behind block h.is_of h.fresh ∙ ap (λ l. remove_entry (nat_eq block) (contents l)) (sym h.cut)

  pub taken_places : (other : ℕ) → place_at (ring_at rs' 0) other ≡ cond (nat_eq block other) None (place_at (ring_at rs 0) other)
  taken_places other =
      ap (λ l. place_at l other) taken_sealed ∙ place_cut h.before h.g h.behind block other h.is_of h.fresh distinct ∙ ap (λ l. cond (nat_eq block other) None (place_at l other)) (sym h.cut)

  pub taken_rings : standing p rs' ≡ 0 → ((q : Ptr) → q ≢ p → SameAt rs rs' q) → AreRings rs'
  taken_rings gone others = record {
    two = taken_two;
    sealed = subst (λ l. AreChanges (contents l)) (sym taken_sealed) (changes_cut h.before h.g h.behind (subst (λ l. AreChanges (contents l)) h.cut R.sealed));
    current = subst (λ l. AreChanges (contents l)) (sym taken_current) R.current;
    once = once_taken rs rs' p R.once gone others;
  }

-- the place of a block in two rings joined
pub place_append : (xs ys : List Page) (block : ℕ) → place_at (xs ++ ys) block ≡ option_or (place_at xs block) (place_at ys block)
place_append [] ys block = refl
place_append (x ∷ xs) ys block = (elim (nat_eq block x.block) as (λ y. cond y (Some x.place) (place_at (xs ++ ys) block) ≡ option_or (cond y (Some x.place) (place_at xs block)) (place_at ys block)) [
  | true ↦ refl
  | false ↦ place_append xs ys block
])

or_swap : (x y : Option Ptr) → (is_some y ≡ true → x ≡ None) → option_or x y ≡ option_or y x
or_swap None None f = refl
or_swap None (Some y) f = refl
or_swap (Some x) None f = refl
or_swap (Some x) (Some y) f = absurd (clash (f refl))
  where
    clash : Some x ≡ None → ⊥
    clash e = cc

pub place_joined : (xs ys : List Page) (block : ℕ) → (is_some (place_at ys block) ≡ true → place_at xs block ≡ None) → place_at (xs ++ ys) block ≡ option_or (place_at ys block) (place_at xs block)
place_joined xs ys block f = place_append xs ys block ∙ or_swap (place_at xs block) (place_at ys block) f

-- what holds of each block that has a page
pub all_blocks : (P : ℕ → Type 0) (xs : List Page) → ((block : ℕ) → is_some (place_at xs block) ≡ true → P block) → AllByRecursion P (blocks_of xs)
all_blocks P [] f = tt
all_blocks P (x ∷ xs) f = (
  f x.block (ap (λ y. is_some (cond y (Some x.place) (place_at xs x.block))) (block_self x.block)),
  all_blocks P xs (λ block e. f block ((elim (nat_eq block x.block) as (λ y. is_some (cond y (Some x.place) (place_at xs block)) ≡ true) [
    | true ↦ refl
    | false ↦ e
  ]))),
)

-- the newest page of a block, by the places of its pages
module _ (rs : List (List Page)) (R : AreRings rs) (block : ℕ) where
  none_by : (x y : Option Ptr) → place_at (ring_at rs 1) block ≡ x → place_at (ring_at rs 0) block ≡ y → None ≡ option_or x y → None ≡ option_or (page_at (contents (ring_at rs 1)) block) (page_at (contents (ring_at rs 0)) block)
  none_by None None e f n = λ i. option_or (sym (page_none (ring_at rs 1) block e) i) (sym (page_none (ring_at rs 0) block f) i)
  none_by None (Some y) e f n = absurd (clash n)
    where
      clash : None ≡ Some y → ⊥
      clash z = cc
  none_by (Some x) y e f n = absurd (clash n)
    where
      clash : None ≡ Some x → ⊥
      clash z = cc

  pub newest_none : None ≡ option_or (place_at (ring_at rs 1) block) (place_at (ring_at rs 0) block) → None ≡ option_or (page_at (contents (ring_at rs 1)) block) (page_at (contents (ring_at rs 0)) block)
  newest_none = none_by (place_at (ring_at rs 1) block) (place_at (ring_at rs 0) block) refl refl

  some_by : (p : Ptr) (x y : Option Ptr) → place_at (ring_at rs 1) block ≡ x → place_at (ring_at rs 0) block ≡ y → Some p ≡ option_or x y
      → Stands rs p × (Some (bytes_of p rs) ≡ option_or (page_at (contents (ring_at rs 1)) block) (page_at (contents (ring_at rs 0)) block))
  some_by p None None e f n = absurd (clash n)
    where
      clash : Some p ≡ None → ⊥
      clash z = cc
  some_by p None (Some y) e f n =
      let at : place_at (ring_at rs 0) block ≡ Some p = f ∙ sym n in (
        token_stands rs R 0 (omega arith) block p at,
        (λ i. Some (token_bytes rs R 0 (omega arith) block p at i)) ∙ sym (page_here (ring_at rs 0) block p (here (ring_at rs 0) block p at))
            ∙ ap (λ x. option_or x (page_at (contents (ring_at rs 0)) block)) (sym (page_none (ring_at rs 1) block e)),
      )
  some_by p (Some x) y e f n =
      let at : place_at (ring_at rs 1) block ≡ Some p = e ∙ sym n in (
        token_stands rs R 1 (omega arith) block p at,
        (λ i. Some (token_bytes rs R 1 (omega arith) block p at i)) ∙ ap (λ z. option_or z (page_at (contents (ring_at rs 0)) block)) (sym (page_here (ring_at rs 1) block p (here (ring_at rs 1) block p at))),
      )

  pub newest_some : (p : Ptr) → Some p ≡ option_or (place_at (ring_at rs 1) block) (place_at (ring_at rs 0) block)
      → Stands rs p × (Some (bytes_of p rs) ≡ option_or (page_at (contents (ring_at rs 1)) block) (page_at (contents (ring_at rs 0)) block))
  newest_some p = some_by p (place_at (ring_at rs 1) block) (place_at (ring_at rs 0) block) refl refl

-- the page of a block in the second ring gets other bytes
module _ (rs rs' : List (List Page)) (R : AreRings rs) (block : ℕ) (p : Ptr) (b : List ℕ) (e : place_at (ring_at rs 1) block ≡ Some p) (is : rs' ≡ map (map (rewritten p b)) rs) where
  abbrev W : Here (ring_at rs 1) block p
  W = here (ring_at rs 1) block p e

  pub written_is : rs' ≡ with_ring rs 1 (replaced (ring_at rs 1) (length W.before) b)
  written_is = is ∙ replaced_set p b rs 1 W.g W.before W.behind (omega (arith, R.two)) W.cut W.place (R.once p)

  pub written_contents : contents (replaced (ring_at rs 1) (length W.before) b) ≡ insert_entry nat_eq (contents (ring_at rs 1)) block b
  written_contents =
      ap (λ l. contents (replaced l (length W.before) b)) W.cut ∙ contents_written W.before W.g W.behind block b W.is_of W.fresh ∙ ap (λ l. insert_entry nat_eq (contents l) block b) (sym W.cut)
