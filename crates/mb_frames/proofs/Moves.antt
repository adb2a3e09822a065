-- What each call does to the rings, where the links did their part.
use Rattle.std.proofs.lemmas.Bool.{true≢false}
use Rattle.std.proofs.Common.{◌≡◌, ℕ, suc, ◌+◌, ◌<◌, ◌≤◌, true, false, cond, List, [], ◌∷◌, ◌++◌, length, get_or, set, map, refl, sym, ap, ◌∙◌, subst, arith, append-nil, length-append}
use Rattle.std.proofs.lemmas.List.{length-map, map-append}
use Rattle.std.specs.Prelude.{◌≢◌, IsTrue}
use denote.RawPtr.{Ptr, null_ptr}
use Rattle.mb_frames.specs.Counts.{times}
use Rattle.mb_frames.specs.Cells.{Cell, is_at, next_at, prev_at, head_at, block_at, bytes_at, places, Moves}
use Rattle.mb_frames.specs.Shape.{Round, Headed, Shaped}
use Rattle.mb_frames.specs.Pages.{Page, stands_in, standing, block_of, bytes_of, any, without, SameAt}
use Rattle.mb_frames.specs.Walks.{page_of, pages_at, row_at}
use Rattle.mb_frames.proofs.Chains.{last, one, one_self, times_cons}
use Rattle.mb_frames.proofs.Shapes.{page_all}
use Rattle.mb_frames.proofs.Views.{rest_of}
use Rattle.mb_frames.proofs.Pages.{one_other, stands_append, stands_cons, stands_pages, standing_cons, standing_set, standing_at, Told, read_told, same_at, without_here, without_set, Located, located, Split, split_at}
use Rattle.mb_frames.proofs.Steps.{spots, lists, once, row_is, round_is, within_rows, list_is, told_list, head_there, page_there, first_is, last_is, step_ends, step_sides, step_shaped, step_lists, step_places, told_are}

abbrev pub tail_of : {X : Type 0} → List X → List X
tail_of [] = []
tail_of (x ∷ xs) = xs

abbrev pub first_or : List (List Page) → List Page
first_or [] = []
first_or (x ∷ xs) = x

pub last_none : (u : Ptr) → last u [] ≡ u
unfolding last
last_none u = refl

last_cons : (h u : Ptr) (us : List Ptr) → last h (u ∷ us) ≡ last u us
unfolding last
last_cons h u us = refl

module _ (c : List Cell) (s : Ptr) (hs : List Ptr) (S : Shaped c (map (row_at c) (s ∷ hs))) where
  abbrev pub rings : List (List Page)
  rings = map (pages_at c) hs

  pub told_rings : Told c rings
  told_rings = record { rows = map rest_of (map (row_at c) hs); are = ap tail_of (told_are c (s ∷ hs) S) }

  pub once_rings : (q : Ptr) → stands_in q (pages_at c s) + standing q rings ≤ 1
  once_rings q = omega (arith, once c (s ∷ hs) S q, standing_cons q (pages_at c s) rings)

  pub spare_there : IsTrue (is_at s c)
  spare_there = head_there c (s ∷ hs) S 0 (omega arith) s refl

  pub ring_there : (k : ℕ) → k < length hs → (h : Ptr) → get_or hs k null_ptr ≡ h → IsTrue (is_at h c)
  ring_there k w h e = head_there c (s ∷ hs) S (suc k) (omega (arith, w)) h e

  -- a page of a ring is a node
  pub stands_there : (p : Ptr) → 0 < standing p rings → IsTrue (is_at p c)
  stands_there p w =
      let l = located p rings w in let v : suc l.ring < length (s ∷ hs) = omega (arith, l.within, length-map hs (pages_at c)) in let h = get_or hs l.ring null_ptr in
      page_there c (s ∷ hs) S (suc l.ring) v h refl p
      (omega (arith, l.stands, ap (stands_in p) (list_is c (s ∷ hs) S (suc l.ring) v h refl), ap (stands_in p) (told_list c (s ∷ hs) S (suc l.ring) v h refl), stands_pages p c (spots (pages_at c h))))

  pub bytes_are : (p : Ptr) → standing p rings ≡ 1 → bytes_of p rings ≡ bytes_at c p
  bytes_are p e = read_told (λ g. g.bytes) [] p c rings told_rings ∙ ap (λ n. cond (any n) (bytes_at c p) []) e

  pub block_is : (p : Ptr) → standing p rings ≡ 1 → block_of p rings ≡ block_at c p
  block_is p e = read_told (λ g. g.block) 0 p c rings told_rings ∙ ap (λ n. cond (any n) (block_at c p) 0) e

  module _ (c' : List Cell) (S' : Shaped c' (map (row_at c') (s ∷ hs))) where
    pub told_new : Told c' (map (pages_at c') hs)
    told_new = record { rows = map rest_of (map (row_at c') hs); are = ap tail_of (told_are c' (s ∷ hs) S') }

    pub stays : (q : Ptr) → standing q (map (pages_at c') hs) ≡ standing q rings → page_of c' q ≡ page_of c q → SameAt rings (map (pages_at c') hs) q
    stays q e f = same_at q c c' rings (map (pages_at c') hs) told_rings told_new e f

  -- a whole ring goes to the end of another, where i and j count the spare pages' ring as the first
  module _ (i j : ℕ) (differ : i ≢ j) (wi : i < length (s ∷ hs)) (wj : j < length (s ∷ hs)) (h t : Ptr) (eh : get_or (s ∷ hs) i null_ptr ≡ h) (et : get_or (s ∷ hs) j null_ptr ≡ t) where
    headed_is : Headed c (row_at c h)
    headed_is = subst (Headed c) (row_is c (s ∷ hs) S i wi h eh) (S.headed i (within_rows c (s ∷ hs) S i wi h eh))

    empty_loop : spots (pages_at c h) ≡ [] → next_at c h ≡ h
    empty_loop e = (subst (λ l. Round (next_at c) (prev_at c) (h ∷ l)) e (round_is c (s ∷ hs) S i wi h eh)).0

    by_first : (ps : List Ptr) → spots (pages_at c h) ≡ ps → IsTrue (is_at (next_at c h) c)
    by_first [] e = subst (λ q. IsTrue (is_at q c)) (sym (empty_loop e)) (head_there c (s ∷ hs) S i wi h eh)
    by_first (p ∷ ps) e =
        subst (λ q. IsTrue (is_at q c)) (sym (first_is c (s ∷ hs) S i wi h eh p ps e)) (page_there c (s ∷ hs) S i wi h eh p (omega (arith, ap (times p) e, times_cons p p ps, one_self p)))

    pub next_there : IsTrue (is_at (next_at c h) c)
    next_there = by_first (spots (pages_at c h)) refl

    -- the link of an empty ring leads back to its head
    none_by : (ps : List Ptr) → spots (pages_at c h) ≡ ps → head_at c (next_at c h) ≡ true → ps ≡ []
    none_by [] e t = refl
    none_by (p ∷ ps) e t = absurd (true≢false (sym t ∙ ap (head_at c) (first_is c (s ∷ hs) S i wi h eh p ps e) ∙ (subst (λ l. Headed c (h ∷ l)) e headed_is).1.0))

    pub empty_is : head_at c (next_at c h) ≡ true → pages_at c h ≡ []
    empty_is t = told_list c (s ∷ hs) S i wi h eh ∙ ap (map (page_of c)) (none_by (spots (pages_at c h)) refl t)

    record Full : Type 0 where
      pub u : Ptr
      pub us : List Ptr
      pub cut : spots (pages_at c h) ≡ u ∷ us

    full_by : (ps : List Ptr) → spots (pages_at c h) ≡ ps → head_at c (next_at c h) ≡ false → Full
    full_by [] e f = absurd (true≢false (sym (ap (head_at c) (empty_loop e) ∙ headed_is.0) ∙ f))
    full_by (u ∷ us) e f = record { u = u; us = us; cut = e }

    module _ (f : head_at c (next_at c h) ≡ false) where
      F : Full
      F = full_by (spots (pages_at c h)) refl f

      next_u : next_at c h ≡ F.u
      next_u = first_is c (s ∷ hs) S i wi h eh F.u F.us F.cut

      prev_u : prev_at c h ≡ last F.u F.us
      prev_u = last_is c (s ∷ hs) S i wi h eh ∙ ap (last h) F.cut ∙ last_cons h F.u F.us

      cut : spots (pages_at c h) ≡ [] ++ ((F.u ∷ F.us) ++ [])
      cut = F.cut ∙ sym (append-nil (F.u ∷ F.us))

      pub whole_ends : IsTrue (is_at (next_at c h) c) × IsTrue (is_at (prev_at c h) c) × IsTrue (is_at t c)
      whole_ends = subst (λ (k : Ptr × Ptr). IsTrue (is_at k.0 c) × IsTrue (is_at k.1 c) × IsTrue (is_at t c)) (λ z. (sym next_u z, sym prev_u z)) (step_ends c (s ∷ hs) S i j differ wi wj h t eh et [] F.u F.us [] cut)

      pub whole_sides : IsTrue (is_at (prev_at c (next_at c h)) c) × IsTrue (is_at (next_at c (prev_at c h)) c) × IsTrue (is_at (prev_at c t) c)
      whole_sides =
          subst (λ (k : Ptr × Ptr). IsTrue (is_at (prev_at c k.0) c) × IsTrue (is_at (next_at c k.1) c) × IsTrue (is_at (prev_at c t) c)) (λ z. (sym next_u z, sym prev_u z)) (step_sides c (s ∷ hs) S i j differ wi wj h t eh et [] F.u F.us [] cut)

      module _ (c' : List Cell) (M : Moves c c' (next_at c h) (prev_at c h) t) where
        N : Moves c c' F.u (last F.u F.us) t
        N = subst (λ (k : Ptr × Ptr). Moves c c' k.0 k.1 t) (λ z. (next_u z, prev_u z)) M

        pub whole_shaped : Shaped c' (map (row_at c') (s ∷ hs))
        whole_shaped = step_shaped c (s ∷ hs) S i j differ wi wj h t eh et [] F.u F.us [] cut c' N

        pub whole_lists : map (pages_at c') (s ∷ hs) ≡ set (set (lists c (s ∷ hs) S) i []) j (pages_at c t ++ pages_at c h)
        whole_lists =
            step_lists c (s ∷ hs) S i j differ wi wj h t eh et [] F.u F.us [] cut c' N
            ∙ ap (set (set (lists c (s ∷ hs) S) i []) j)
            (map-append (page_of c) (spots (pages_at c t)) (F.u ∷ F.us) ∙ (λ z. sym (told_list c (s ∷ hs) S j wj t et) z ++ (ap (map (page_of c)) (sym F.cut) ∙ sym (told_list c (s ∷ hs) S i wi h eh)) z))

        pub whole_page : (q : Ptr) → page_of c' q ≡ page_of c q
        whole_page = page_all c c' (next_at c h) (prev_at c h) t M

  -- one page leaves its ring for the spare ones
  module _ (p : Ptr) (st : standing p rings ≡ 1) where
    L : Located p rings
    L = located p rings (omega (arith, st))

    abbrev k : ℕ
    k = L.ring

    within : k < length hs
    within = omega (arith, L.within, length-map hs (pages_at c))

    abbrev h : Ptr
    h = get_or hs k null_ptr

    list_k : get_or rings k [] ≡ pages_at c h
    list_k = list_is c (s ∷ hs) S (suc k) (omega (arith, within)) h refl

    told_k : pages_at c h ≡ map (page_of c) (spots (pages_at c h))
    told_k = told_list c (s ∷ hs) S (suc k) (omega (arith, within)) h refl

    P : Split p (spots (pages_at c h))
    P = split_at p (spots (pages_at c h)) (omega (arith, L.stands, ap (stands_in p) list_k, ap (stands_in p) told_k, stands_pages p c (spots (pages_at c h))))

    cut_k : spots (pages_at c h) ≡ P.before ++ ((p ∷ []) ++ P.after)
    cut_k = P.is

    differ_k : suc k ≢ 0
    differ_k e = absurd (omega (arith, e))

    abbrev wk : suc k < length (s ∷ hs)
    wk = omega (arith, within)

    abbrev w0 : 0 < length (s ∷ hs)
    w0 = omega arith

    pub one_ends : IsTrue (is_at p c) × IsTrue (is_at p c) × IsTrue (is_at s c)
    one_ends = subst (λ q. IsTrue (is_at p c) × IsTrue (is_at q c) × IsTrue (is_at s c)) (last_none p) (step_ends c (s ∷ hs) S (suc k) 0 differ_k wk w0 h s refl refl P.before p [] P.after cut_k)

    pub one_sides : IsTrue (is_at (prev_at c p) c) × IsTrue (is_at (next_at c p) c) × IsTrue (is_at (prev_at c s) c)
    one_sides = subst (λ q. IsTrue (is_at (prev_at c p) c) × IsTrue (is_at (next_at c q) c) × IsTrue (is_at (prev_at c s) c)) (last_none p) (step_sides c (s ∷ hs) S (suc k) 0 differ_k wk w0 h s refl refl P.before p [] P.after cut_k)

    module _ (c' : List Cell) (M : Moves c c' p p s) where
      N1 : Moves c c' p (last p []) s
      N1 = subst (λ q. Moves c c' p q s) (sym (last_none p)) M

      pub one_shaped : Shaped c' (map (row_at c') (s ∷ hs))
      one_shaped = step_shaped c (s ∷ hs) S (suc k) 0 differ_k wk w0 h s refl refl P.before p [] P.after cut_k c' N1

      pub one_places : places c' ≡ places c
      one_places = step_places c (s ∷ hs) S (suc k) 0 differ_k wk w0 h s refl refl P.before p [] P.after cut_k c' N1

      new_lists : map (pages_at c') (s ∷ hs) ≡ map (page_of c) (spots (pages_at c s) ++ p ∷ []) ∷ set rings k (map (page_of c) (P.before ++ P.after))
      new_lists = step_lists c (s ∷ hs) S (suc k) 0 differ_k wk w0 h s refl refl P.before p [] P.after cut_k c' N1

      abbrev X : List Page
      X = map (page_of c) P.before

      abbrev Y : List Page
      Y = map (page_of c) P.after

      ring_k : get_or rings k [] ≡ X ++ page_of c p ∷ Y
      ring_k = list_k ∙ told_k ∙ ap (map (page_of c)) cut_k ∙ map-append (page_of c) P.before (p ∷ P.after)

      pub one_rings : map (pages_at c') hs ≡ map (without p) rings
      one_rings =
          ap tail_of new_lists ∙ ap (set rings k) (map-append (page_of c) P.before P.after)
          ∙ sym (without_set p rings k (X ++ Y) (L.within) (ap (without p) ring_k ∙ without_here p (page_of c p) X Y refl (omega (arith, st, standing_at p rings k L.within, ap (stands_in p) ring_k))) L.stands (omega (arith, st)))

      pub one_spare : length (pages_at c' s) ≡ length (pages_at c s) + 1
      one_spare = let a : spots (pages_at c s) ++ p ∷ [] ≡ spots (pages_at c s) ++ p ∷ [] = refl in omega (
        arith,
        ap (λ l. length (first_or l)) new_lists,
        length-map (spots (pages_at c s) ++ p ∷ []) (page_of c),
        length-append (spots (pages_at c s)) (p ∷ []),
        length-map (pages_at c s) (λ (g : Page). g.place),
      )

      one_count : (q : Ptr) → standing q (map (pages_at c') hs) + one p q ≡ standing q rings
      one_count q = omega (
        arith,
        ap (standing q) (ap tail_of new_lists ∙ ap (set rings k) (map-append (page_of c) P.before P.after)),
        standing_set q rings k (X ++ Y) L.within,
        ap (stands_in q) ring_k,
        stands_append q X Y,
        stands_append q X (page_of c p ∷ Y),
        stands_cons q (page_of c p) Y,
      )

      pub one_gone : standing p (map (pages_at c') hs) ≡ 0
      one_gone = omega (arith, one_count p, st, one_self p)

      pub one_others : (q : Ptr) → q ≢ p → SameAt rings (map (pages_at c') hs) q
      one_others q n = stays c' one_shaped q (omega (arith, one_count q, one_other p q n)) (page_all c c' p p s M q)
