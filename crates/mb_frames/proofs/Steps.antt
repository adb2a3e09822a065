-- One move of a run, or one write of bytes, as the rings' lists of pages see it.
use Rattle.std.proofs.Common.{◌≡◌, ℕ, ◌<◌, ◌≤◌, List, [], ◌∷◌, ◌++◌, length, get_or, set, map, refl, sym, ap, ◌∙◌, subst, arith}
use Rattle.std.proofs.lemmas.List.{get_or-map, length-map}
use Rattle.std.specs.Prelude.{◌≢◌, IsTrue}
use denote.RawPtr.{Ptr, null_ptr}
use Rattle.mb_frames.specs.Counts.{total, times}
use Rattle.mb_frames.specs.Cells.{Cell, is_at, next_at, prev_at, places, Moves, Stays}
use Rattle.mb_frames.specs.Shape.{Linked, Round, Shaped}
use Rattle.mb_frames.specs.Pages.{Page, standing}
use Rattle.mb_frames.specs.Walks.{page_of, pages_at, row_at}
use Rattle.mb_frames.proofs.Chains.{last, one_self, times_cons}
use Rattle.mb_frames.proofs.Shapes.{in_row, stayed, ends_at, sides_at}
use Rattle.mb_frames.proofs.Views.{rest_of, pages_of, seen, firsts, moved_shaped, moved_pages, moved_places}
use Rattle.mb_frames.proofs.Pages.{stands_pages}

abbrev pub spots : List Page → List Ptr
spots = map (λ g. g.place)

-- p is the place of the page at that index of the ring
pub record Indexed (c : List Cell) (h : Ptr) (index : ℕ) (p : Ptr) : Type 0 where
  pub before : List Ptr
  pub after : List Ptr
  pub cut : spots (pages_at c h) ≡ before ++ p ∷ after
  pub count : index ≡ length before

rest_times : (q : Ptr) (row : List Ptr) → times q (rest_of row) ≤ times q row
rest_times q [] = omega arith
rest_times q (h ∷ ps) = omega (arith, times_cons q h ps)

map_two : (f : Page → Page) (c : List Cell) (ps : List Ptr) → map (λ q. f (page_of c q)) ps ≡ map f (map (page_of c) ps)
map_two f c [] = refl
map_two f c (p ∷ ps) = ap (λ l. f (page_of c p) ∷ l) (map_two f c ps)

map_pages : (f : Page → Page) (c : List Cell) (rows : List (List Ptr)) → map (λ row. map (λ q. f (page_of c q)) (rest_of row)) rows ≡ map (map f) (map (pages_of c) rows)
map_pages f c [] = refl
map_pages f c (r ∷ rs) = λ i. map_two f c (rest_of r) i ∷ map_pages f c rs i

map_rest : (c : List Cell) (rows : List (List Ptr)) → map (pages_of c) rows ≡ map (map (page_of c)) (map rest_of rows)
map_rest c [] = refl
map_rest c (r ∷ rs) = ap (λ l. pages_of c r ∷ l) (map_rest c rs)

round_last : (n p : Ptr → Ptr) (a z : Ptr) (ps : List Ptr) → Linked n p a (ps ++ z ∷ []) → p z ≡ last a ps
unfolding last
round_last n p a z [] l = l.1
round_last n p a z (b ∷ bs) l = round_last n p b z bs l.2

standing_rows : (q : Ptr) (c : List Cell) (rows : List (List Ptr)) → standing q (map (pages_of c) rows) ≤ total (times q) rows
unfolding standing total
standing_rows q c [] = omega arith
standing_rows q c (r ∷ rs) = omega (arith, standing_rows q c rs, stands_pages q c (rest_of r), rest_times q r)

module _ (c : List Cell) (H : List Ptr) (S : Shaped c (map (row_at c) H)) where
  abbrev pub lists : List (List Page)
  lists = map (pages_at c) H

  pub lists_are : lists ≡ map (pages_of c) (map (row_at c) H)
  lists_are = ap (map (pages_at c)) (sym (firsts c H)) ∙ (seen c (map (row_at c) H) S).0

  -- no place stands twice
  pub once : (q : Ptr) → standing q lists ≤ 1
  once q = omega (arith, ap (standing q) lists_are, standing_rows q c (map (row_at c) H), S.apart q)

  module _ (k : ℕ) (w : k < length H) (h : Ptr) (e : get_or H k null_ptr ≡ h) where
    pub row_is : get_or (map (row_at c) H) k [] ≡ row_at c h
    row_is = get_or-map (row_at c) H k null_ptr [] w ∙ ap (row_at c) e

    pub list_is : get_or lists k [] ≡ pages_at c h
    list_is = get_or-map (pages_at c) H k null_ptr [] w ∙ ap (pages_at c) e

    pub told_list : pages_at c h ≡ map (page_of c) (spots (pages_at c h))
    told_list =
        sym list_is ∙ ap (λ l. get_or l k []) lists_are ∙ get_or-map (pages_of c) (map (row_at c) H) k [] [] (omega (arith, w, length-map H (row_at c))) ∙ ap (pages_of c) row_is

    pub within_rows : k < length (map (row_at c) H)
    within_rows = omega (arith, w, length-map H (row_at c))

    pub head_there : IsTrue (is_at h c)
    head_there = in_row c (map (row_at c) H) S k within_rows h (subst (λ r. 1 ≤ times h r) (sym row_is) (omega (arith, times_cons h h (spots (pages_at c h)), one_self h)))

    pub page_there : (p : Ptr) → 0 < times p (spots (pages_at c h)) → IsTrue (is_at p c)
    page_there p m = in_row c (map (row_at c) H) S k within_rows p (subst (λ r. 1 ≤ times p r) (sym row_is) (omega (arith, m, times_cons p h (spots (pages_at c h)))))

    pub round_is : Round (next_at c) (prev_at c) (row_at c h)
    round_is = subst (Round (next_at c) (prev_at c)) row_is (S.rounds k within_rows)

    -- the ring's first page
    pub first_is : (p : Ptr) (ps : List Ptr) → spots (pages_at c h) ≡ p ∷ ps → next_at c h ≡ p
    first_is p ps f = (subst (λ l. Round (next_at c) (prev_at c) (h ∷ l)) f round_is).0

    -- its last one
    pub last_is : prev_at c h ≡ last h (spots (pages_at c h))
    last_is = round_last (next_at c) (prev_at c) h h (spots (pages_at c h)) round_is

  module _ (i j : ℕ) (differ : i ≢ j) (wi : i < length H) (wj : j < length H) (h t : Ptr) (eh : get_or H i null_ptr ≡ h) (et : get_or H j null_ptr ≡ t)
      (xs : List Ptr) (u : Ptr) (us ys : List Ptr) (cut : spots (pages_at c h) ≡ xs ++ ((u ∷ us) ++ ys)) where
    abbrev rows : List (List Ptr)
    rows = map (row_at c) H

    abbrev ts : List Ptr
    ts = spots (pages_at c t)

    ei : get_or rows i [] ≡ h ∷ (xs ++ ((u ∷ us) ++ ys))
    ei = row_is i wi h eh ∙ ap (λ l. h ∷ l) cut

    pub step_ends : IsTrue (is_at u c) × IsTrue (is_at (last u us) c) × IsTrue (is_at t c)
    step_ends = ends_at rows i j differ (within_rows i wi h eh) (within_rows j wj t et) h xs u us ys t ts ei (row_is j wj t et) c S

    pub step_sides : IsTrue (is_at (prev_at c u) c) × IsTrue (is_at (next_at c (last u us)) c) × IsTrue (is_at (prev_at c t) c)
    step_sides = sides_at rows i j differ (within_rows i wi h eh) (within_rows j wj t et) h xs u us ys t ts ei (row_is j wj t et) c S

    module _ (c' : List Cell) (m : Moves c c' u (last u us) t) where
      pub step_shaped : Shaped c' (map (row_at c') H)
      step_shaped = moved_shaped H rows (firsts c H) i j differ (within_rows i wi h eh) (within_rows j wj t et) h xs u us ys t ts ei (row_is j wj t et) c S c' m

      pub step_lists : map (pages_at c') H ≡ set (set lists i (map (page_of c) (xs ++ ys))) j (map (page_of c) (ts ++ u ∷ us))
      step_lists = moved_pages H rows (firsts c H) i j differ (within_rows i wi h eh) (within_rows j wj t et) h xs u us ys t ts ei (row_is j wj t et) c S c' m

      pub step_places : places c' ≡ places c
      step_places = moved_places H rows (firsts c H) i j differ (within_rows i wi h eh) (within_rows j wj t et) h xs u us ys t ts ei (row_is j wj t et) c S c' m

  -- the links stay, and what the pages hold changes
  module _ (c' : List Cell) (w : Stays c c') where
    stayed_rows : map (row_at c') H ≡ map (row_at c) H
    stayed_rows = ap (map (row_at c')) (sym (firsts c H)) ∙ (seen c' (map (row_at c) H) (stayed c c' (map (row_at c) H) w S)).1

    pub stays_shaped : Shaped c' (map (row_at c') H)
    stays_shaped = subst (Shaped c') (sym stayed_rows) (stayed c c' (map (row_at c) H) w S)

    pub stays_lists : (f : Page → Page) → ((q : Ptr) → page_of c' q ≡ f (page_of c q)) → map (pages_at c') H ≡ map (map f) lists
    stays_lists f e =
        ap (map (pages_at c')) (sym (firsts c H)) ∙ (seen c' (map (row_at c) H) (stayed c c' (map (row_at c) H) w S)).0
        ∙ (λ k. map (λ row. map (λ q. e q k) (rest_of row)) (map (row_at c) H)) ∙ map_pages f c (map (row_at c) H) ∙ ap (map (map f)) (sym lists_are)

  -- the lists hold what the cells say
  pub told_are : lists ≡ map (map (page_of c)) (map rest_of (map (row_at c) H))
  told_are = lists_are ∙ map_rest c (map (row_at c) H)
