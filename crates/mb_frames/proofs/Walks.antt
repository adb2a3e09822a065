-- A walk along the links of a ring.
use Rattle.std.proofs.Common.{◌≡◌, ℕ, ◌+◌, ◌<◌, ◌≤◌, true, false, List, [], ◌∷◌, ◌++◌, length, refl, sym, ap, ◌∙◌, subst, arith, append_assoc, length-append}
use Rattle.std.proofs.lemmas.Bool.{true≢false}
use Rattle.std.specs.Prelude.{IsTrue}
use Rattle.std.specs.List.{AllByRecursion}
use denote.RawPtr.{Ptr}
use Rattle.mb_frames.specs.Counts.{times}
use Rattle.mb_frames.specs.Cells.{Cell, is_at, next_at, prev_at, head_at}
use Rattle.mb_frames.specs.Shape.{Linked, Round}
use Rattle.mb_frames.specs.Walks.{IsRing, Walked, first_or_head}
use Rattle.mb_frames.proofs.Chains.{last, last_append, one_self, times_cons, times_append, cut_chain}
use Rattle.mb_frames.proofs.Shapes.{all_cut}
use Rattle.mb_frames.proofs.Views.{pages_row, map_places}
use Rattle.mb_frames.proofs.Steps.{spots}

-- on the way
pub record Walking (cs : List Cell) (h : Ptr) (most : ℕ) (p : Ptr) (n : ℕ) : Type 0 where
  pub ring : IsRing cs h
  pub before : List Ptr
  pub after : List Ptr
  pub cut : ring.pages ≡ before ++ after
  pub count : length before ≡ n
  pub there : p ≡ first_or_head after h
  pub within : n ≤ most

pub first_link : (cs : List Cell) (h : Ptr) (ps : List Ptr) → Round (next_at cs) (prev_at cs) (h ∷ ps) → next_at cs h ≡ first_or_head ps h
first_link cs h [] r = r.0
first_link cs h (p ∷ ps) r = r.0

pub walk_starts : (cs : List Cell) (h : Ptr) (most : ℕ) (p : Ptr) → IsRing cs h → p ≡ next_at cs h → Walking cs h most p 0
walk_starts cs h most p r e = record { ring = r; before = []; after = r.pages; cut = refl; count = refl; there = e ∙ first_link cs h r.pages r.round; within = omega arith }

last_one : (a : Ptr) → last a [] ≡ a
unfolding last
last_one a = refl

module _ (cs : List Cell) (h : Ptr) (most : ℕ) (p : Ptr) (n : ℕ) (w : Walking cs h most p n) where
  by_after : (ps : List Ptr) → w.after ≡ ps → IsTrue (is_at p cs)
  by_after [] e = subst (λ q. IsTrue (is_at q cs)) (sym (w.there ∙ ap (λ l. first_or_head l h) e)) (w.ring.here h (omega (arith, times_cons h h w.ring.pages, one_self h)))
  by_after (y ∷ ys) e =
      subst (λ q. IsTrue (is_at q cs)) (sym (w.there ∙ ap (λ l. first_or_head l h) e))
      (w.ring.here y (omega (arith, times_cons y h w.ring.pages, ap (times y) (w.cut ∙ ap (λ l. w.before ++ l) e), times_append y w.before (y ∷ ys), times_cons y y ys, one_self y)))

  pub walk_there : IsTrue (is_at p cs)
  walk_there = by_after w.after refl

  next_link : (y : Ptr) (ys : List Ptr) → Linked (next_at cs) (prev_at cs) y (ys ++ h ∷ []) → next_at cs y ≡ first_or_head ys h
  next_link y [] l = l.0
  next_link y (z ∷ zs) l = l.0

  stepped : (ps : List Ptr) → w.after ≡ ps → head_at cs p ≡ false → n < most → Walking cs h most (next_at cs p) (n + 1)
  stepped [] e f v = absurd (true≢false (sym (ap (head_at cs) (w.there ∙ ap (λ l. first_or_head l h) e) ∙ w.ring.headed.0) ∙ f))
  stepped (y ∷ ys) e f v =
      let at : p ≡ y = w.there ∙ ap (λ l. first_or_head l h) e in
      let cut : w.ring.pages ≡ (w.before ++ y ∷ []) ++ ys = w.cut ∙ ap (λ l. w.before ++ l) e ∙ sym (append_assoc w.before (y ∷ []) ys) in
      let whole : Linked (next_at cs) (prev_at cs) h ((w.before ++ y ∷ []) ++ (ys ++ h ∷ [])) = subst (Linked (next_at cs) (prev_at cs) h) (ap (λ l. l ++ h ∷ []) cut ∙ append_assoc (w.before ++ y ∷ []) ys (h ∷ [])) w.ring.round in
      let rest : Linked (next_at cs) (prev_at cs) y (ys ++ h ∷ []) = subst (λ k. Linked (next_at cs) (prev_at cs) k (ys ++ h ∷ [])) (last_append h w.before y [] ∙ last_one y) (cut_chain (next_at cs) (prev_at cs) h (w.before ++ y ∷ []) (ys ++ h ∷ []) whole).1 in
      record {
        ring = w.ring;
        before = w.before ++ y ∷ [];
        after = ys;
        cut = cut;
        count = omega (arith, w.count, length-append w.before (y ∷ []));
        there = ap (next_at cs) at ∙ next_link y ys rest;
        within = omega (arith, v);
      }

  pub walk_steps : head_at cs p ≡ false → n < most → Walking cs h most (next_at cs p) (n + 1)
  walk_steps = stepped w.after refl

  at_head : (ps : List Ptr) → w.after ≡ ps → head_at cs p ≡ true → ps ≡ []
  at_head [] e f = refl
  at_head (y ∷ ys) e f =
      let a = all_cut (λ q. head_at cs q ≡ false) w.before (y ∷ ys) (subst (AllByRecursion (λ q. head_at cs q ≡ false)) (w.cut ∙ ap (λ l. w.before ++ l) e) w.ring.headed.1) in
      absurd (true≢false (sym f ∙ ap (head_at cs) (w.there ∙ ap (λ l. first_or_head l h) e) ∙ a.1.0))

  pub walk_ends : (n < most → head_at cs p ≡ true) → Walked cs h most p n
  walk_ends f = record {
    before = w.before;
    after = w.after;
    cut = ap spots (pages_row cs h w.ring.pages w.ring.round w.ring.headed w.ring.bounded) ∙ map_places cs w.ring.pages ∙ w.cut;
    count = w.count;
    there = w.there;
    within = w.within;
    stop = λ v. at_head w.after refl (f v);
  }

pub ring_head : (cs : List Cell) (h : Ptr) → IsRing cs h → IsTrue (is_at h cs)
ring_head cs h r = r.here h (omega (arith, times_cons h h r.pages, one_self h))
