-- The pages at given places get other bytes: they are those of one ring.
use Rattle.std.proofs.Common.{◌≡◌, ℕ, zero, suc, ◌+◌, ◌<◌, ◌≤◌, true, false, ◌||◌, cond, List, [], ◌∷◌, length, get_or, set, map, refl, ap, ◌∙◌, arith}
use denote.RawPtr.{Ptr}
use Rattle.mb_frames.specs.Pointers.{same_ptr}
use Rattle.mb_frames.specs.Counts.{times}
use Rattle.mb_frames.specs.Cells.{has}
use Rattle.mb_frames.specs.Pages.{Page, page, stands_in, standing}
use Rattle.mb_frames.proofs.Chains.{one_self}
use Rattle.mb_frames.proofs.Pages.{stands_cons, standing_cons, standing_at}

-- the page with other bytes
abbrev pub holding : List ℕ → Page → Page
holding b g = page g.place g.block b

abbrev pub refilled : List Ptr → List ℕ → Page → Page
refilled ps b g = cond (has g.place ps) (holding b g) g

pub refilled_place : (ps : List Ptr) (b : List ℕ) (g : Page) → (refilled ps b g).place ≡ g.place
refilled_place ps b g = (elim (has g.place ps) as (λ y. (cond y (holding b g) g).place ≡ g.place) [
  | true ↦ refl
  | false ↦ refl
])

pub stands_places : (q : Ptr) (gs : List Page) → stands_in q gs ≡ times q (map (λ g. g.place) gs)
unfolding stands_in
stands_places q gs = refl

pub has_none : (q : Ptr) (ps : List Ptr) → times q ps ≡ 0 → has q ps ≡ false
unfolding has times
has_none q [] e = refl
has_none q (p ∷ ps) e = (elim (same_ptr p q) as (λ y. cond y 1 0 + times q ps ≡ 0 → (y || has q ps) ≡ false) [
  | true ↦ λ z. absurd (omega (arith, z))
  | false ↦ λ z. has_none q ps (omega (arith, z))
]) e

pub has_some : (q : Ptr) (ps : List Ptr) → 0 < times q ps → has q ps ≡ true
unfolding has times
has_some q [] w = absurd (omega arith)
has_some q (p ∷ ps) w = (elim (same_ptr p q) as (λ y. 0 < cond y 1 0 + times q ps → (y || has q ps) ≡ true) [
  | true ↦ λ v. refl
  | false ↦ λ v. has_some q ps (omega (arith, v))
]) w

module _ (ps : List Ptr) (b : List ℕ) where
  refilled_none : (gs : List Page) → ((q : Ptr) → 0 < stands_in q gs → has q ps ≡ false) → map (refilled ps b) gs ≡ gs
  refilled_none [] f = refl
  refilled_none (g ∷ gs) f = λ i. ap (λ y. cond y (holding b g) g) (f g.place (omega (arith, stands_cons g.place g gs, one_self g.place))) i ∷ refilled_none gs (λ q w. f q (omega (arith, w, stands_cons q g gs))) i

  refilled_all : (gs : List Page) → ((q : Ptr) → 0 < stands_in q gs → has q ps ≡ true) → map (refilled ps b) gs ≡ map (holding b) gs
  refilled_all [] f = refl
  refilled_all (g ∷ gs) f = λ i. ap (λ y. cond y (holding b g) g) (f g.place (omega (arith, stands_cons g.place g gs, one_self g.place))) i ∷ refilled_all gs (λ q w. f q (omega (arith, w, stands_cons q g gs))) i

  refilled_rest : (rs : List (List Page)) → ((q : Ptr) → 0 < standing q rs → has q ps ≡ false) → map (map (refilled ps b)) rs ≡ rs
  refilled_rest [] f = refl
  refilled_rest (r ∷ rs) f = λ i. refilled_none r (λ q w. f q (omega (arith, w, standing_cons q r rs))) i ∷ refilled_rest rs (λ q w. f q (omega (arith, w, standing_cons q r rs))) i

  -- the places are those of the ring k
  pub refilled_set : (rs : List (List Page)) (k : ℕ) → k < length rs → map (λ (g : Page). g.place) (get_or rs k []) ≡ ps → ((q : Ptr) → standing q rs ≤ 1) → map (map (refilled ps b)) rs ≡ set rs k (map (holding b) (get_or rs k []))
  refilled_set [] k w e o = absurd (omega arith)
  refilled_set (r ∷ rs) zero w e o =
      let here : (q : Ptr) → stands_in q r ≡ times q ps = λ q. stands_places q r ∙ ap (times q) e in
      λ i. refilled_all r (λ q v. has_some q ps (omega (arith, v, here q))) i ∷ refilled_rest rs (λ q v. has_none q ps (omega (arith, v, here q, o q, standing_cons q r rs))) i
  refilled_set (r ∷ rs) (suc k) w e o =
      let there : (q : Ptr) → stands_in q (get_or rs k []) ≡ times q ps = λ q. stands_places q (get_or rs k []) ∙ ap (times q) e in
      λ i. refilled_none r (λ q v. has_none q ps (omega (arith, v, there q, o q, standing_cons q r rs, standing_at q rs k (omega (arith, w))))) i
      ∷ refilled_set rs k (omega (arith, w)) e (λ q. omega (arith, o q, standing_cons q r rs)) i
