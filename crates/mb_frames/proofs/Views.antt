-- The pages that a walk along the links meets are those of the row.
use Rattle.std.proofs.Common.{◌≡◌, ℕ, zero, suc, ◌<◌, ◌≤◌, true, false, cond, List, [], ◌∷◌, ◌++◌, length, get_or, set, map, refl, sym, ap, ◌∙◌, subst, arith, get_or-set_other}
use Rattle.std.proofs.Math.Seq.{map-set_same}
use Rattle.std.proofs.lemmas.List.{map-set}
use Rattle.std.specs.Prelude.{◌≢◌}
use Rattle.std.specs.List.{AllByRecursion}
use denote.RawPtr.{Ptr}
use Rattle.mb_frames.specs.Cells.{Cell, next_at, prev_at, head_at, places, Moves}
use Rattle.mb_frames.specs.Shape.{Linked, Round, Headed, first_of, Shaped}
use Rattle.mb_frames.specs.Pages.{Page}
use Rattle.mb_frames.specs.Walks.{page_of, follow, pages_at, row_at}
use Rattle.mb_frames.proofs.Sums.{total_at}
use Rattle.mb_frames.proofs.Chains.{last}
use Rattle.mb_frames.proofs.Shapes.{moved_rows, moved, keeps_all, page_all}

abbrev pub rest_of : List Ptr → List Ptr
rest_of [] = []
rest_of (h ∷ ps) = ps

abbrev pub pages_of : List Cell → List Ptr → List Page
pages_of cs row = map (page_of cs) (rest_of row)

pub map_places : (cs : List Cell) (ps : List Ptr) → map (λ (g : Page). g.place) (map (page_of cs) ps) ≡ ps
map_places cs [] = refl
map_places cs (p ∷ ps) = ap (λ l. p ∷ l) (map_places cs ps)

pub follow_end : (n : ℕ) (cs : List Cell) (z : Ptr) → head_at cs z ≡ true → follow n cs z ≡ []
unfolding follow
follow_end zero cs z e = refl
follow_end (suc n) cs z e = ap (λ y. cond y [] (page_of cs z ∷ follow n cs (next_at cs z))) e

pub follow_chain : (n : ℕ) (cs : List Cell) (a : Ptr) (ps : List Ptr) (z : Ptr) → Linked (next_at cs) (prev_at cs) a (ps ++ z ∷ []) → head_at cs z ≡ true → AllByRecursion (λ p. head_at cs p ≡ false) ps → length ps ≤ n
    → follow n cs (next_at cs a) ≡ map (page_of cs) ps
unfolding follow
follow_chain n cs a [] z l e f w = ap (follow n cs) l.0 ∙ follow_end n cs z e
follow_chain zero cs a (b ∷ bs) z l e f w = absurd (omega arith)
follow_chain (suc n) cs a (b ∷ bs) z l e f w = ap (follow (suc n) cs) l.0 ∙ ap (λ y. cond y [] (page_of cs b ∷ follow n cs (next_at cs b))) f.0 ∙ ap (λ k. page_of cs b ∷ k) (follow_chain n cs b bs z l.2 e f.1 (omega arith))

pub pages_row : (cs : List Cell) (h : Ptr) (ps : List Ptr) → Round (next_at cs) (prev_at cs) (h ∷ ps) → Headed cs (h ∷ ps) → length ps ≤ length cs → pages_at cs h ≡ map (page_of cs) ps
unfolding pages_at
pages_row cs h ps r e w = follow_chain (length cs) cs h ps h r e.0 e.1 w

module _ (cs : List Cell) where
  seen_row : (row : List Ptr) → Round (next_at cs) (prev_at cs) row → Headed cs row → length row ≤ length cs → pages_at cs (first_of row) ≡ pages_of cs row
  seen_row [] r e w = absurd r
  seen_row (h ∷ ps) r e w = pages_row cs h ps r e (omega (arith, w))

  back_row : (row : List Ptr) → Round (next_at cs) (prev_at cs) row → pages_at cs (first_of row) ≡ pages_of cs row → row_at cs (first_of row) ≡ row
  back_row [] r e = absurd r
  back_row (h ∷ ps) r e = ap (λ l. h ∷ l) (ap (map (λ (g : Page). g.place)) e ∙ map_places cs ps)

  seen_each : (rows : List (List Ptr)) → ((k : ℕ) → k < length rows → (Round (next_at cs) (prev_at cs) (get_or rows k [])) × (Headed cs (get_or rows k [])) × (length (get_or rows k []) ≤ length cs))
      → (map (pages_at cs) (map first_of rows) ≡ map (pages_of cs) rows) × (map (row_at cs) (map first_of rows) ≡ rows)
  seen_each [] f = (refl, refl)
  seen_each (r ∷ rs) f =
      let here = f 0 (omega arith) in let there = seen_each rs (λ k w. f (suc k) (omega (arith, w))) in let pages = seen_row r here.0 here.1 here.2 in
      ((λ i. pages i ∷ there.0 i), (λ i. back_row r here.0 pages i ∷ there.1 i))

  pub seen : (rows : List (List Ptr)) → Shaped cs rows → (map (pages_at cs) (map first_of rows) ≡ map (pages_of cs) rows) × (map (row_at cs) (map first_of rows) ≡ rows)
  seen rows s = seen_each rows (λ k w. (s.rounds k w, s.headed k w, omega (arith, s.bounded, total_at length [] rows k w)))

  pub firsts : (hs : List Ptr) → map first_of (map (row_at cs) hs) ≡ hs
  firsts [] = refl
  firsts (h ∷ hs) = ap (λ l. h ∷ l) (firsts hs)

module _ (hs : List Ptr) (rows : List (List Ptr)) (f : map first_of rows ≡ hs) (i j : ℕ) (differ : i ≢ j) (wi : i < length rows) (wj : j < length rows) (h : Ptr) (xs : List Ptr) (u : Ptr) (us ys : List Ptr) (t : Ptr) (ts : List Ptr)
    (ei : get_or rows i [] ≡ h ∷ (xs ++ ((u ∷ us) ++ ys))) (ej : get_or rows j [] ≡ t ∷ ts) (old : List Cell) (s : Shaped old rows) (new : List Cell) (m : Moves old new u (last u us) t) where
  abbrev R : List (List Ptr)
  R = moved_rows rows i j differ wi wj (h ∷ (xs ++ ys)) (t ∷ (ts ++ u ∷ us))

  new_shaped : Shaped new R
  new_shaped = moved rows i j differ wi wj h xs u us ys t ts ei ej old s new m

  new_firsts : map first_of R ≡ hs
  new_firsts =
      map-set_same first_of (set rows i (h ∷ (xs ++ ys))) j (t ∷ (ts ++ u ∷ us)) [] (ap first_of (sym ej ∙ sym (get_or-set_other rows i j (h ∷ (xs ++ ys)) [] (λ e. differ (sym e)))))
      ∙ map-set_same first_of rows i (h ∷ (xs ++ ys)) [] (ap first_of (sym ei)) ∙ f

  pub moved_shaped : Shaped new (map (row_at new) hs)
  moved_shaped = subst (Shaped new) (sym (ap (map (row_at new)) (sym new_firsts) ∙ (seen new R new_shaped).1)) new_shaped

  -- the pages of all rings
  pub moved_pages : map (pages_at new) hs ≡ set (set (map (pages_at old) hs) i (map (page_of old) (xs ++ ys))) j (map (page_of old) (ts ++ u ∷ us))
  moved_pages =
      let A : List Ptr = h ∷ (xs ++ ys) in let B : List Ptr = t ∷ (ts ++ u ∷ us) in
      ap (map (pages_at new)) (sym new_firsts) ∙ (seen new R new_shaped).0 ∙ (λ k. map (λ row. map (λ p. page_all old new u (last u us) t m p k) (rest_of row)) R)
      ∙ map-set (pages_of old) (set rows i A) j B ∙ ap (λ l. set l j (pages_of old B)) (map-set (pages_of old) rows i A)
      ∙ ap (λ l. set (set l i (pages_of old A)) j (pages_of old B)) (sym (seen old rows s).0 ∙ ap (map (pages_at old)) f)

  pub moved_places : places new ≡ places old
  moved_places = (keeps_all old new u (last u us) t m).places
