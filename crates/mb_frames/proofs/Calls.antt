-- What `put`, `splice` and `release` do to the rings.
use Rattle.std.proofs.Common.{◌≡◌, ℕ, suc, ◌+◌, ◌<◌, ◌≤◌, true, false, cond, List, [], ◌∷◌, ◌++◌, length, get_or, set, map, refl, sym, ap, ◌∙◌, subst, arith, append-nil, length-append, length-set, get_or-set_other}
use Rattle.std.proofs.lemmas.List.{length-map, map-append, set-get_or}
use Rattle.std.specs.Prelude.{◌≢◌, IsTrue}
use denote.RawPtr.{Ptr, null_ptr}
use Rattle.mb_frames.specs.Counts.{times}
use Rattle.mb_frames.specs.Cells.{Cell, is_at, next_at, prev_at, head_at, places, Moves, Writes}
use Rattle.mb_frames.specs.Shape.{Shaped}
use Rattle.mb_frames.specs.Pages.{Page, page, stands_in, standing, block_of, bytes_of, any, ring_at, with_ring, SameAt}
use Rattle.mb_frames.specs.Walks.{page_of, pages_at, row_at}
use Rattle.mb_frames.proofs.Chains.{last, one, one_self, times_cons}
use Rattle.mb_frames.proofs.Shapes.{page_all}
use Rattle.mb_frames.proofs.Pages.{one_other, stands_append, stands_none, stands_cons, stands_pages, standing_set, read_told, places_each, stored, stored_place, stored_all}
use Rattle.mb_frames.proofs.Steps.{spots, list_is, told_list, page_there, first_is, step_ends, step_sides, step_shaped, step_lists, step_places}
use Rattle.mb_frames.proofs.Moves.{tail_of, first_or, last_none, rings, once_rings, stays, whole_shaped, whole_lists, whole_page, empty_is, told_new}
use Rattle.mb_frames.proofs.Contents.{written_shaped, written_rings, written_first, written_page, written_apart}

record Some_of (l : List Ptr) : Type 0 where
  pub p : Ptr
  pub ps : List Ptr
  pub is : l ≡ p ∷ ps

some_of : (l : List Ptr) → 0 < length l → Some_of l
some_of [] w = absurd (omega arith)
some_of (p ∷ ps) w = record { p = p; ps = ps; is = refl }

-- a spare page goes to the end of the ring k
module _ (c : List Cell) (s : Ptr) (hs : List Ptr) (S : Shaped c (map (row_at c) (s ∷ hs))) (k : ℕ) (wk : k < length hs) (t : Ptr) (et : get_or hs k null_ptr ≡ t) (some : 0 < length (pages_at c s)) where
  abbrev f : Ptr
  f = next_at c s

  abbrev w0 : 0 < length (s ∷ hs)
  w0 = omega arith

  abbrev wj : suc k < length (s ∷ hs)
  wj = omega (arith, wk)

  differ0 : 0 ≢ suc k
  differ0 e = absurd (omega (arith, e))

  O : Some_of (spots (pages_at c s))
  O = some_of (spots (pages_at c s)) (omega (arith, some, length-map (pages_at c s) (λ (g : Page). g.place)))

  f_is : f ≡ O.p
  f_is = first_is c (s ∷ hs) S 0 w0 s refl O.p O.ps O.is

  spots_are : spots (pages_at c s) ≡ f ∷ O.ps
  spots_are = O.is ∙ ap (λ q. q ∷ O.ps) (sym f_is)

  f_times : 0 < times f (spots (pages_at c s))
  f_times = omega (arith, ap (times f) spots_are, times_cons f f O.ps, one_self f)

  pub put_page : IsTrue (is_at f c)
  put_page = page_there c (s ∷ hs) S 0 w0 s refl f f_times

  f_spare : 1 ≤ stands_in f (pages_at c s)
  f_spare = omega (arith, f_times, ap (stands_in f) (told_list c (s ∷ hs) S 0 w0 s refl), stands_pages f c (spots (pages_at c s)))

  pub put_fresh : standing f (rings c s hs S) ≡ 0
  put_fresh = omega (arith, once_rings c s hs S f, f_spare)

  module _ (c1 : List Cell) (block : ℕ) (b : List ℕ) (W : Writes c c1 f block b) where
    S1 : Shaped c1 (map (row_at c1) (s ∷ hs))
    S1 = written_shaped c s hs S c1 f block b W

    cut1 : spots (pages_at c1 s) ≡ [] ++ ((f ∷ []) ++ O.ps)
    cut1 = ap spots (written_first c s hs S c1 f block b W) ∙ places_each (stored f block b) (stored_place f block b) (pages_at c s) ∙ spots_are

    pub put_ends : IsTrue (is_at f c1) × IsTrue (is_at f c1) × IsTrue (is_at t c1)
    put_ends = subst (λ q. IsTrue (is_at f c1) × IsTrue (is_at q c1) × IsTrue (is_at t c1)) (last_none f) (step_ends c1 (s ∷ hs) S1 0 (suc k) differ0 w0 wj s t refl et [] f [] O.ps cut1)

    pub put_sides : IsTrue (is_at (prev_at c1 f) c1) × IsTrue (is_at (next_at c1 f) c1) × IsTrue (is_at (prev_at c1 t) c1)
    put_sides = subst (λ q. IsTrue (is_at (prev_at c1 f) c1) × IsTrue (is_at (next_at c1 q) c1) × IsTrue (is_at (prev_at c1 t) c1)) (last_none f) (step_sides c1 (s ∷ hs) S1 0 (suc k) differ0 w0 wj s t refl et [] f [] O.ps cut1)

    module _ (c2 : List Cell) (M : Moves c1 c2 f f t) where
      N : Moves c1 c2 f (last f []) t
      N = subst (λ q. Moves c1 c2 f q t) (sym (last_none f)) M

      pub put_shaped : Shaped c2 (map (row_at c2) (s ∷ hs))
      put_shaped = step_shaped c1 (s ∷ hs) S1 0 (suc k) differ0 w0 wj s t refl et [] f [] O.ps cut1 c2 N

      pub put_places : places c2 ≡ places c
      put_places = step_places c1 (s ∷ hs) S1 0 (suc k) differ0 w0 wj s t refl et [] f [] O.ps cut1 c2 N ∙ W.stays.keeps.places

      new_lists : map (pages_at c2) (s ∷ hs) ≡ map (page_of c1) O.ps ∷ set (map (pages_at c1) hs) k (map (page_of c1) (spots (pages_at c1 t) ++ f ∷ []))
      new_lists = step_lists c1 (s ∷ hs) S1 0 (suc k) differ0 w0 wj s t refl et [] f [] O.ps cut1 c2 N

      old_rings : map (pages_at c1) hs ≡ rings c s hs S
      old_rings = written_rings c s hs S c1 f block b W ∙ stored_all f block b (rings c s hs S) put_fresh

      grown_ring : map (page_of c1) (spots (pages_at c1 t) ++ f ∷ []) ≡ ring_at (rings c s hs S) k ++ page f block b ∷ []
      grown_ring =
          map-append (page_of c1) (spots (pages_at c1 t)) (f ∷ [])
          ∙ (λ z. (sym (told_list c1 (s ∷ hs) S1 (suc k) wj t et) ∙ sym (list_is c1 (s ∷ hs) S1 (suc k) wj t et) ∙ ap (λ l. get_or l k []) old_rings) z ++ written_page c s hs S c1 f block b W z ∷ [])

      pub put_rings : map (pages_at c2) hs ≡ with_ring (rings c s hs S) k (ring_at (rings c s hs S) k ++ page f block b ∷ [])
      put_rings = ap tail_of new_lists ∙ (λ z. set (old_rings z) k (grown_ring z))

      pub put_spare : length (pages_at c2 s) + 1 ≡ length (pages_at c s)
      put_spare = omega (arith, ap (λ l. length (first_or l)) new_lists, length-map O.ps (page_of c1), ap length spots_are, length-map (pages_at c s) (λ (g : Page). g.place))

      put_count : (q : Ptr) → standing q (map (pages_at c2) hs) ≡ standing q (rings c s hs S) + one f q
      put_count q =
          let r = ring_at (rings c s hs S) k in
          omega (arith, ap (standing q) put_rings, standing_set q (rings c s hs S) k (r ++ page f block b ∷ []) (omega (arith, wk, length-map hs (pages_at c))), stands_append q r (page f block b ∷ []), stands_cons q (page f block b) [], stands_none q)

      pub put_stands : standing f (map (pages_at c2) hs) ≡ 1
      put_stands = omega (arith, put_count f, put_fresh, one_self f)

      page_put : page_of c2 f ≡ page f block b
      page_put = page_all c1 c2 f f t M f ∙ written_page c s hs S c1 f block b W

      pub put_told : (block_of f (map (pages_at c2) hs) ≡ block) × (bytes_of f (map (pages_at c2) hs) ≡ b)
      put_told =
          let told = told_new c s hs S c2 put_shaped in (
            read_told (λ g. g.block) 0 f c2 (map (pages_at c2) hs) told ∙ (λ i. cond (any (put_stands i)) (page_put i).block 0),
            read_told (λ g. g.bytes) [] f c2 (map (pages_at c2) hs) told ∙ (λ i. cond (any (put_stands i)) (page_put i).bytes []),
          )

      pub put_others : (q : Ptr) → q ≢ f → SameAt (rings c s hs S) (map (pages_at c2) hs) q
      put_others q n =
          stays c s hs S c2 put_shaped q (omega (arith, put_count q, one_other f q n)) (page_all c1 c2 f f t M q ∙ written_apart c s hs S c1 f block b W q n)

module _ (c : List Cell) (s : Ptr) (hs : List Ptr) (S : Shaped c (map (row_at c) (s ∷ hs))) (a : ℕ) (wa : a < length hs) (h : Ptr) (eh : get_or hs a null_ptr ≡ h) where
  abbrev wi : suc a < length (s ∷ hs)
  wi = omega (arith, wa)

  abbrev z0 : 0 < length (s ∷ hs)
  z0 = omega arith

  abbrev R : List (List Page)
  R = rings c s hs S

  wr : a < length R
  wr = omega (arith, wa, length-map hs (pages_at c))

  ring_a : ring_at R a ≡ pages_at c h
  ring_a = list_is c (s ∷ hs) S (suc a) wi h eh

  pub differ_spare : suc a ≢ 0
  differ_spare e = absurd (omega (arith, e))

  -- an empty ring is released, or spliced
  module _ (e : head_at c (next_at c h) ≡ true) where
    pub none : ring_at R a ≡ []
    none = ring_a ∙ empty_is c s hs S (suc a) 0 differ_spare wi z0 h s eh refl e

    pub released_none : R ≡ with_ring R a []
    released_none = sym (ap (set R a) (sym none) ∙ set-get_or R a [])

    pub spare_none : length (pages_at c s) ≡ length (pages_at c s) + length (ring_at R a)
    spare_none = omega (arith, ap length none)

    pub spliced_none : (b : ℕ) → R ≡ with_ring (with_ring R a []) b (ring_at R b ++ ring_at R a)
    spliced_none b = sym ((λ z. set (sym released_none z) b (ring_at R b ++ none z)) ∙ ap (set R b) (append-nil (ring_at R b)) ∙ set-get_or R b [])

  module _ (f : head_at c (next_at c h) ≡ false) (c' : List Cell) where
    module _ (M : Moves c c' (next_at c h) (prev_at c h) s) where
      pub released_shaped : Shaped c' (map (row_at c') (s ∷ hs))
      released_shaped = whole_shaped c s hs S (suc a) 0 differ_spare wi z0 h s eh refl f c' M

      released_lists : map (pages_at c') (s ∷ hs) ≡ (pages_at c s ++ pages_at c h) ∷ set R a []
      released_lists = whole_lists c s hs S (suc a) 0 differ_spare wi z0 h s eh refl f c' M

      pub released_rings : map (pages_at c') hs ≡ with_ring R a []
      released_rings = ap tail_of released_lists

      pub released_spare : length (pages_at c' s) ≡ length (pages_at c s) + length (ring_at R a)
      released_spare = ap (λ l. length (first_or l)) released_lists ∙ length-append (pages_at c s) (pages_at c h) ∙ ap (λ l. length (pages_at c s) + length l) (sym ring_a)

      pub released_others : (q : Ptr) → stands_in q (ring_at R a) ≡ 0 → SameAt R (map (pages_at c') hs) q
      released_others q e =
          stays c s hs S c' released_shaped q (omega (arith, e, ap (standing q) released_rings, standing_set q R a [] wr, stands_none q)) (whole_page c s hs S (suc a) 0 differ_spare wi z0 h s eh refl f c' M q)

    module _ (b : ℕ) (ab : a ≢ b) (wb : b < length hs) (t : Ptr) (et : get_or hs b null_ptr ≡ t) (M : Moves c c' (next_at c h) (prev_at c h) t) where
      abbrev wt : suc b < length (s ∷ hs)
      wt = omega (arith, wb)

      differ_two : suc a ≢ suc b
      differ_two e = ab (omega (arith, e))

      pub spliced_shaped : Shaped c' (map (row_at c') (s ∷ hs))
      spliced_shaped = whole_shaped c s hs S (suc a) (suc b) differ_two wi wt h t eh et f c' M

      ring_b : ring_at R b ≡ pages_at c t
      ring_b = list_is c (s ∷ hs) S (suc b) wt t et

      spliced_lists : map (pages_at c') (s ∷ hs) ≡ pages_at c s ∷ set (set R a []) b (ring_at R b ++ ring_at R a)
      spliced_lists = whole_lists c s hs S (suc a) (suc b) differ_two wi wt h t eh et f c' M ∙ (λ z. pages_at c s ∷ set (set R a []) b (sym ring_b z ++ sym ring_a z))

      pub spliced_rings : map (pages_at c') hs ≡ with_ring (with_ring R a []) b (ring_at R b ++ ring_at R a)
      spliced_rings = ap tail_of spliced_lists

      pub spliced_spare : length (pages_at c' s) ≡ length (pages_at c s)
      spliced_spare = ap (λ l. length (first_or l)) spliced_lists

      pub spliced_others : (q : Ptr) → SameAt R (map (pages_at c') hs) q
      spliced_others q =
          stays c s hs S c' spliced_shaped q
          (omega (
            arith,
            ap (standing q) spliced_rings,
            standing_set q R a [] wr,
            stands_none q,
            standing_set q (set R a []) b (ring_at R b ++ ring_at R a) (omega (arith, wb, length-map hs (pages_at c), length-set R a [])),
            ap (stands_in q) (get_or-set_other R a b [] [] (λ e. ab (sym e))),
            stands_append q (ring_at R b) (ring_at R a),
          )) (whole_page c s hs S (suc a) (suc b) differ_two wi wt h t eh et f c' M q)
