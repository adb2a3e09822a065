-- What callers cite to carry tokens through calls.
use Rattle.std.proofs.Common.{◌≡◌, ℕ, zero, suc, ◌<◌, ◌≤◌, true, false, cond, List, [], ◌∷◌, ◌++◌, length, get_or, refl, sym, ap, ◌∙◌, arith}
use Rattle.std.specs.Prelude.{◌≢◌}
use denote.RawPtr.{Ptr}
use Rattle.mb_frames.specs.Pointers.{same_ptr}
use Rattle.mb_frames.specs.Pages.{Page, stands_in, standing, Stands, any, read_in, read_of, SameAt}
use Rattle.mb_frames.proofs.Pointers.{same_ptr_refl}
use Rattle.mb_frames.proofs.Chains.{one, one_self}
use Rattle.mb_frames.proofs.Pages.{stands_append, stands_cons, standing_cons, standing_at, only_here}

-- a token that stands is another than one that does not
pub fresh_other : (rings : List (List Page)) (p q : Ptr) → Stands rings p → standing q rings ≡ 0 → q ≢ p
fresh_other rings p q st f e = absurd (omega (arith, st, f, ap (λ k. standing k rings) e))

-- after a `put` that gave q, a token stands as before
pub stands_put : (old new : List (List Page)) (p q : Ptr) → Stands old p → standing q old ≡ 0 → ((r : Ptr) → r ≢ q → SameAt old new r) → Stands new p
stands_put old new p q st f others = (others p (λ e. fresh_other old p q st f (sym e))).stands ∙ st

-- a page of the ring k, by the pages before and behind it
module _ (p : Ptr) (before : List Page) (g : Page) (behind : List Page) (e : g.place ≡ p) where
  stands_once : 1 ≤ stands_in p (before ++ g ∷ behind)
  stands_once = let s : one g.place p ≡ 1 = ap (λ q. one q p) e ∙ one_self p in omega (arith, s, stands_append p before (g ∷ behind), stands_cons p g behind)

  -- its token names a page
  pub stands_here : (rs : List (List Page)) (k : ℕ) → k < length rs → get_or rs k [] ≡ before ++ g ∷ behind → standing p rs ≤ 1 → Stands rs p
  stands_here rs k w is o = omega (arith, o, standing_at p rs k w, ap (stands_in p) is, stands_once)

  module _ {X : Type 0} (f : Page → X) (d : X) where
    read_first : (x : Page) (xs : List Page) → stands_in p (x ∷ xs) ≡ 0 → (ys : List Page) → read_in f d p (x ∷ ys) ≡ read_in f d p ys
    unfolding read_in
    read_first x xs none ys = (elim (same_ptr x.place p) as (λ y. same_ptr x.place p ≡ y → cond y (f x) (read_in f d p ys) ≡ read_in f d p ys) [
      | true ↦ λ s. absurd (omega (arith, none, stands_cons p x xs, ap {B = ℕ} (λ y. cond y 1 0) s))
      | false ↦ λ s. refl
    ]) refl

    read_behind : (xs : List Page) → stands_in p xs ≡ 0 → read_in f d p (xs ++ g ∷ behind) ≡ f g
    unfolding read_in
    read_behind [] none = ap (λ y. cond y (f g) (read_in f d p behind)) (ap (λ q. same_ptr q p) e ∙ same_ptr_refl p)
    read_behind (x ∷ xs) none = read_first x xs none (xs ++ g ∷ behind) ∙ read_behind xs (omega (arith, none, stands_cons p x xs))

    read_ring : (r : List Page) (rs : List (List Page)) → stands_in p r ≡ 0 → read_of f d p (r ∷ rs) ≡ read_of f d p rs
    unfolding read_of
    read_ring r rs none = ap (λ n. cond (any n) (read_in f d p r) (read_of f d p rs)) none

    read_found : (r : List Page) (rs : List (List Page)) (n : ℕ) → stands_in p r ≡ suc n → read_of f d p (r ∷ rs) ≡ read_in f d p r
    unfolding read_of
    read_found r rs n some = ap (λ m. cond (any m) (read_in f d p r) (read_of f d p rs)) some

    -- what is read of it
    pub read_here : (rs : List (List Page)) (k : ℕ) → k < length rs → get_or rs k [] ≡ before ++ g ∷ behind → standing p rs ≤ 1 → read_of f d p rs ≡ f g
    read_here [] k w is o = absurd (omega (arith, w))
    read_here (r ∷ rs) zero w is o =
        let cut = ap (stands_in p) is in
        read_found r rs 0 (omega (arith, o, cut, stands_once, standing_cons p r rs)) ∙ ap (read_in f d p) is
        ∙ read_behind before (only_here p g before behind e (omega (arith, o, cut, standing_cons p r rs))).0
    read_here (r ∷ rs) (suc k) w is o =
        read_ring r rs (omega (arith, o, standing_cons p r rs, standing_at p rs k (omega (arith, w)), ap (stands_in p) is, stands_once))
        ∙ read_here rs k (omega (arith, w)) is (omega (arith, o, standing_cons p r rs))
