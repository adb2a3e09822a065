-- The rings, as spare pages are added.
use Rattle.std.proofs.Common.{◌≡◌, ℕ, ◌+◌, ◌<◌, ◌≤◌, true, false, inl, inr, List, [], ◌∷◌, ◌++◌, length, get_or, map, reverse, refl, sym, ap, ◌∙◌, subst, arith, length-append}
use Rattle.std.proofs.lemmas.List.{map-append, reverse-append, length-map}
use Rattle.std.specs.Prelude.{IsTrue, slice_get, Some}
use Rattle.std.specs.List.{AllByRecursion}
use Rattle.std.proofs.lemmas.Bool.{true≢false}
use Rattle.std.proofs.lemmas.Bool.Decides.{leb_tells}
use denote.RawPtr.{Ptr, null_ptr}
use Rattle.mb_frames.specs.Counts.{total, times}
use Rattle.mb_frames.specs.Cells.{Cell, is_at, prev_at, head_at, places, Adds}
use Rattle.mb_frames.specs.Shape.{Headed, first_of, Shaped}
use Rattle.mb_frames.specs.Pages.{Page}
use Rattle.mb_frames.specs.Walks.{page_of, pages_at, row_at, Sound, IsRing, Walked, first_or_head}
use Rattle.mb_frames.specs.declared.node.NodePtr.{NodePtr}
use Rattle.mb_frames.proofs.Chains.{last, one_self, times_cons, times_append, times_last}
use Rattle.mb_frames.proofs.Shapes.{all_cut, in_row}
use Rattle.mb_frames.proofs.Sums.{total_at}
use Rattle.mb_frames.proofs.Views.{pages_of, map_places, pages_row, seen, firsts}
use Rattle.mb_frames.proofs.Moves.{tail_of, first_or, spare_there}
use Rattle.mb_frames.proofs.Added.{added, added_places, added_page}
use Rattle.mb_frames.proofs.Steps.{spots, Indexed, row_is, round_is, within_rows, last_is}

times_here : (p : Ptr) (ps : List Ptr) → 1 ≤ times p (p ∷ ps)
times_here p ps = omega (arith, times_cons p p ps, one_self p)

pages_same : (old new : List Cell) (ps : List Ptr) → ((q : Ptr) → 0 < times q ps → page_of new q ≡ page_of old q) → map (page_of new) ps ≡ map (page_of old) ps
pages_same old new [] f = refl
pages_same old new (p ∷ ps) f = λ i. f p (omega (arith, times_here p ps)) i ∷ pages_same old new ps (λ q w. f q (omega (arith, w, times_cons q p ps))) i

rows_same : (old new : List Cell) (rows : List (List Ptr)) → ((q : Ptr) → 0 < total (times q) rows → page_of new q ≡ page_of old q) → map (pages_of new) rows ≡ map (pages_of old) rows
unfolding total
rows_same old new [] f = refl
rows_same old new ([] ∷ rs) f = λ i. [] ∷ rows_same old new rs (λ q w. f q (omega (arith, w))) i
rows_same old new ((h ∷ ps) ∷ rs) f = λ i. pages_same old new ps (λ q w. f q (omega (arith, w, times_cons q h ps))) i ∷ rows_same old new rs (λ q w. f q (omega (arith, w))) i

total_cons : (q : Ptr) (r : List Ptr) (rs : List (List Ptr)) → total (times q) (r ∷ rs) ≡ times q r + total (times q) rs
unfolding total
total_cons q r rs = refl

module _ (c : List Cell) (s : Ptr) (hs : List Ptr) (S : Shaped c (map (row_at c) (s ∷ hs))) where
  abbrev ts : List Ptr
  ts = spots (pages_at c s)

  abbrev w0 : 0 < length (s ∷ hs)
  w0 = omega arith

  pub spare_sides : IsTrue (is_at s c) × IsTrue (is_at (prev_at c s) c)
  spare_sides =
      let q = last s ts in
      (spare_there c s hs S, subst (λ k. IsTrue (is_at k c)) (sym (last_is c (s ∷ hs) S 0 w0 s refl)) (in_row c (map (row_at c) (s ∷ hs)) S 0 (omega arith) q (times_last s ts)))

  -- the ring of a head, for a walk
  pub ring_of : (k : ℕ) → k < length (s ∷ hs) → (h : Ptr) → get_or (s ∷ hs) k null_ptr ≡ h → IsRing c h
  ring_of k w h e =
      let row = row_is c (s ∷ hs) S k w h e in let v = within_rows c (s ∷ hs) S k w h e in
      let size : length (get_or (map (row_at c) (s ∷ hs)) k []) ≡ length (spots (pages_at c h)) + 1 = ap length row ∙ omega arith in
      record {
        pages = spots (pages_at c h);
        round = round_is c (s ∷ hs) S k w h e;
        headed = subst (Headed c) row (S.headed k v);
        here = λ q m. in_row c (map (row_at c) (s ∷ hs)) S k v q (subst (λ r. 1 ≤ times q r) (sym row) (omega (arith, m)));
        bounded = omega (arith, S.bounded, total_at length [] (map (row_at c) (s ∷ hs)) k v, size);
      }

  module _ (new : List Cell) (p : Ptr) (B : Adds c new p s) where
    abbrev grown : List (List Ptr)
    grown = (s ∷ (ts ++ p ∷ [])) ∷ map (row_at c) hs

    A : Shaped new grown
    A = added c new p s ts (map (row_at c) hs) S B

    firsts_are : map first_of grown ≡ s ∷ hs
    firsts_are = ap (λ l. s ∷ l) (firsts c hs)

    pub stocked_shaped : Shaped new (map (row_at new) (s ∷ hs))
    stocked_shaped = subst (Shaped new) (sym (ap (map (row_at new)) (sym firsts_are) ∙ (seen new grown A).1)) A

    all_pages : map (pages_at new) (s ∷ hs) ≡ map (page_of new) (ts ++ p ∷ []) ∷ map (pages_of new) (map (row_at c) hs)
    all_pages = ap (map (pages_at new)) (sym firsts_are) ∙ (seen new grown A).0

    same_page : (q : Ptr) → 0 < total (times q) (map (row_at c) hs) → page_of new q ≡ page_of c q
    same_page q w = added_page c new p s ts (map (row_at c) hs) S B q (S.here q (omega (arith, w, total_cons q (row_at c s) (map (row_at c) hs))))

    pub stocked_rings : map (pages_at new) hs ≡ map (pages_at c) hs
    stocked_rings = ap tail_of all_pages ∙ rows_same c new (map (row_at c) hs) same_page ∙ sym (ap tail_of (ap (map (pages_at c)) (sym (firsts c (s ∷ hs))) ∙ (seen c (map (row_at c) (s ∷ hs)) S).0))

    pub stocked_spare : length (pages_at new s) ≡ length (pages_at c s) + 1
    stocked_spare = omega (arith, ap (λ l. length (first_or l)) all_pages, length-map (ts ++ p ∷ []) (page_of new), length-append ts (p ∷ []), length-map (pages_at c s) (λ (g : Page). g.place))

    pub stocked_places : places new ≡ p ∷ places c
    stocked_places = added_places c new p s ts (map (row_at c) hs) S B

ptrs : List NodePtr → List Ptr
ptrs = map (λ n. n.ptr)

pub stocked_sound : (c new : List Cell) (s : Ptr) (hs : List Ptr) (all all' : List NodePtr) (p : NodePtr) → Sound c s hs (map (λ n. n.ptr) all) → Adds c new p.ptr s → all' ≡ all ++ p ∷ [] → Sound new s hs (map (λ n. n.ptr) all')
stocked_sound c new s hs all all' p I B e = record {
  shaped = stocked_shaped c s hs I.shaped new p.ptr B;
  freed =
      stocked_places c s hs I.shaped new p.ptr B ∙ ap (λ l. p.ptr ∷ l) I.freed
      ∙ sym (ap reverse (ap (map (λ (n : NodePtr). n.ptr)) e ∙ map-append (λ (n : NodePtr). n.ptr) all (p ∷ [])) ∙ reverse-append (map (λ (n : NodePtr). n.ptr) all) (p.ptr ∷ []));
}

get_mid : {X Y : Type 0} (f : X → Y) (xs : List X) (y : X) (ys : List X) → slice_get (map f (xs ++ y ∷ ys)) (length xs) ≡ Some (f y)
get_mid f [] y ys = refl
get_mid f (x ∷ xs) y ys = get_mid f xs y ys

read_list : {X : Type 0} (f : Page → X) (c : List Cell) (ps : List Ptr) → map f (map (page_of c) ps) ≡ map (λ p. f (page_of c p)) ps
read_list f c [] = refl
read_list f c (p ∷ ps) = ap (λ l. f (page_of c p) ∷ l) (read_list f c ps)

-- what is read of that page
pub indexed_read : {X : Type 0} (f : Page → X) (c : List Cell) (h : Ptr) (index : ℕ) (p : Ptr) → Indexed c h index p → pages_at c h ≡ map (page_of c) (spots (pages_at c h)) → slice_get (map f (pages_at c h)) index ≡ Some (f (page_of c p))
indexed_read f c h index p x t =
    ap (λ l. slice_get l index) (ap (map f) (t ∙ ap (map (page_of c)) x.cut) ∙ read_list f c (x.before ++ p ∷ x.after))
    ∙ ap (slice_get (map (λ q. f (page_of c q)) (x.before ++ p ∷ x.after))) x.count ∙ get_mid (λ q. f (page_of c q)) x.before p x.after

module _ (c : List Cell) (h : Ptr) (most : ℕ) (p : Ptr) (n : ℕ) (w : Walked c h most p n) (hd : Headed c (row_at c h)) where
  past_by : (ps : List Ptr) → w.after ≡ ps → head_at c p ≡ true → ps ≡ []
  past_by [] e f = refl
  past_by (y ∷ ys) e f =
      let a = all_cut (λ q. head_at c q ≡ false) w.before (y ∷ ys) (subst (AllByRecursion (λ q. head_at c q ≡ false)) (w.cut ∙ ap (λ l. w.before ++ l) e) hd.1) in
      absurd (true≢false (sym f ∙ ap (head_at c) (w.there ∙ ap (λ l. first_or_head l h) e) ∙ a.1.0))

  pub walked_past : head_at c p ≡ true → length (pages_at c h) ≤ most
  walked_past f =
      let none : length w.after ≡ 0 = ap length (past_by w.after refl f) in
      omega (arith, none, w.count, w.within, sym (length-map (pages_at c h) (λ (g : Page). g.place)) ∙ ap length w.cut ∙ length-append w.before w.after)

  indexed_by : (ps : List Ptr) → w.after ≡ ps → head_at c p ≡ false → Indexed c h most p
  indexed_by [] e f = absurd (true≢false (sym (ap (head_at c) (w.there ∙ ap (λ l. first_or_head l h) e) ∙ hd.0) ∙ f))
  indexed_by (y ∷ ys) e f =
      let at : p ≡ y = w.there ∙ ap (λ l. first_or_head l h) e in
      record {
        before = w.before;
        after = ys;
        cut = w.cut ∙ ap (λ l. w.before ++ l) e ∙ ap (λ q. w.before ++ q ∷ ys) (sym at);
        count = (elim (leb_tells most n) as (λ _. most ≡ length w.before) [
          | inl z ↦ omega (arith, w.count, w.within, z.1)
          | inr z ↦ let none : length w.after ≡ 0 = ap length (w.stop (omega (arith, z.1))) in let some : length w.after ≡ length (y ∷ ys) = ap length e in absurd (omega (arith, none, some))
        ]);
      }

  pub walked_index : head_at c p ≡ false → Indexed c h most p
  walked_index f = indexed_by w.after refl f

  there_by : IsRing c h → (ps : List Ptr) → w.after ≡ ps → IsTrue (is_at p c)
  there_by r [] e = subst (λ q. IsTrue (is_at q c)) (sym (w.there ∙ ap (λ l. first_or_head l h) e)) (r.here h (omega (arith, times_here h r.pages)))
  there_by r (y ∷ ys) e =
      let pages : r.pages ≡ w.before ++ y ∷ ys = sym (ap spots (pages_row c h r.pages r.round r.headed r.bounded) ∙ map_places c r.pages) ∙ w.cut ∙ ap (λ l. w.before ++ l) e in
      subst (λ q. IsTrue (is_at q c)) (sym (w.there ∙ ap (λ l. first_or_head l h) e)) (r.here y (omega (arith, times_cons y h r.pages, ap (times y) pages, times_append y w.before (y ∷ ys), times_here y ys)))

  -- the end of the walk is a node
  pub walked_there : IsRing c h → IsTrue (is_at p c)
  walked_there r = there_by r w.after refl
