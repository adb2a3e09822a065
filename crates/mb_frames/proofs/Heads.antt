-- The rings as they are made: a head each, and no page.
use Rattle.std.proofs.Common.{◌≡◌, ℕ, zero, suc, ◌+◌, ◌<◌, ◌≤◌, true, false, cond, List, [], ◌∷◌, ◌++◌, length, get_or, map, reverse, replicate, refl, sym, ap, ◌∙◌, subst, arith}
use Rattle.std.proofs.lemmas.List.{map-append, reverse-append, length-map}
use Rattle.std.specs.Prelude.{IsTrue}
use denote.RawPtr.{Ptr}
use Rattle.mb_frames.specs.Pointers.{same_ptr}
use Rattle.mb_frames.specs.Counts.{total, times}
use Rattle.mb_frames.specs.Cells.{Cell, places, has, is_at, next_at, prev_at, AddsHead}
use Rattle.mb_frames.specs.Shape.{Round, Headed, first_of, Shaped}
use Rattle.mb_frames.specs.Walks.{pages_at, row_at, Sound}
use Rattle.mb_frames.proofs.Pointers.{same_ptr_eq}
use Rattle.mb_frames.proofs.Chains.{one, times_none, times_cons, new_link, kept_round, Relinks}
use Rattle.mb_frames.proofs.Shapes.{places_length, headed_kept}
use Rattle.mb_frames.proofs.Sums.{total_at}
use Rattle.mb_frames.proofs.Views.{pages_of, seen}
use Rattle.mb_frames.specs.declared.node.NodePtr.{NodePtr}
use Rattle.mb_frames.proofs.Moves.{tail_of, first_or}
use Rattle.mb_frames.proofs.Added.{adopted, new_times, head_new, there_new}

abbrev pub lone : Ptr → List Ptr
lone h = h ∷ []

each_append : (P : List Ptr → Type 0) (rows : List (List Ptr)) (x : List Ptr) → ((k : ℕ) → k < length rows → P (get_or rows k [])) → P x → (k : ℕ) → k < length (rows ++ x ∷ []) → P (get_or (rows ++ x ∷ []) k [])
each_append P [] x f p zero w = p
each_append P [] x f p (suc k) w = absurd (omega (arith, w))
each_append P (r ∷ rs) x f p zero w = f 0 (omega arith)
each_append P (r ∷ rs) x f p (suc k) w = each_append P rs x (λ m v. f (suc m) (omega (arith, v))) p k (omega (arith, w))

total_append : (f : List Ptr → ℕ) (rows : List (List Ptr)) (x : List Ptr) → total f (rows ++ x ∷ []) ≡ total f rows + f x
unfolding total
total_append f [] x = omega arith
total_append f (r ∷ rs) x = omega (arith, total_append f rs x)

pub nothing_shaped : Shaped [] []
unfolding total
nothing_shaped = record {
  rounds = λ k w. absurd (omega (arith, w));
  headed = λ k w. absurd (omega (arith, w));
  apart = λ q. omega arith;
  here = λ q w. absurd (omega (arith, w));
  bounded = omega arith;
}

module _ (old new : List Cell) (p : Ptr) (rows : List (List Ptr)) (S : Shaped old rows) (B : AddsHead old new p) where
  S1 : Shaped B.one rows
  S1 = adopted old B.one p true B.adopted rows S

  rel : Relinks (next_at B.one) (prev_at B.one) (next_at new) (prev_at new) p p
  rel = record { next = B.loops.next; prev = B.loops.prev }

  none : total (times p) rows ≡ 0
  none = new_times old B.one p true B.adopted rows S

  none_row : (k : ℕ) → k < length rows → times p (get_or rows k []) ≡ 0
  none_row k w = omega (arith, none, total_at (times p) [] rows k w)

  sum_new : (q : Ptr) → total (times q) (rows ++ lone p ∷ []) ≡ total (times q) rows + one p q
  sum_new q = omega (arith, total_append (times q) rows (lone p), times_cons q p [], times_none q)

  apart_new : (q : Ptr) → total (times q) rows + one p q ≤ 1
  apart_new q = (elim (same_ptr p q) as (λ y. same_ptr p q ≡ y → total (times q) rows + cond y 1 0 ≤ 1) [
    | true ↦ λ e. omega (arith, none, ap (λ k. total (times k) rows) (same_ptr_eq p q e))
    | false ↦ λ e. omega (arith, S.apart q)
  ]) refl

  here_new : (q : Ptr) → 0 < total (times q) rows + one p q → IsTrue (is_at q new)
  here_new q w = subst (λ l. IsTrue (has q l)) (sym B.loops.keeps.places) ((elim (same_ptr p q) as (λ y. same_ptr p q ≡ y → 0 < total (times q) rows + cond y 1 0 → IsTrue (is_at q B.one)) [
    | true ↦ λ e v. subst (λ k. IsTrue (is_at k B.one)) (same_ptr_eq p q e) (there_new old B.one p true B.adopted)
    | false ↦ λ e v. S1.here q (omega (arith, v))
  ]) refl w)

  pub head_places : places new ≡ p ∷ places old
  head_places = B.loops.keeps.places ∙ ap places B.adopted.is

  pub head_shaped : Shaped new (rows ++ lone p ∷ [])
  head_shaped = record {
    rounds = each_append (Round (next_at new) (prev_at new)) rows (lone p) (λ k w. kept_round (next_at B.one) (prev_at B.one) (next_at new) (prev_at new) p p rel (get_or rows k []) (none_row k w) (none_row k w) (S1.rounds k w))
        (let l = new_link (next_at B.one) (prev_at B.one) (next_at new) (prev_at new) p p rel in (l.0, l.1, tt));
    headed = each_append (Headed new) rows (lone p) (λ k w. headed_kept B.one new B.loops.keeps.heads (get_or rows k []) (S1.headed k w)) (B.loops.keeps.heads p ∙ head_new old B.one p true B.adopted, tt);
    apart = λ q. omega (arith, sum_new q, apart_new q);
    here = λ q w. here_new q (omega (arith, w, sum_new q));
    bounded = omega (arith, total_append length rows (lone p), S.bounded, ap length head_places, places_length old, places_length new);
  }

-- as far as they are made
pub record Made (c : List Cell) (hs owned : List Ptr) : Type 0 where
  pub shaped : Shaped c (map lone hs)
  pub freed : places c ≡ reverse owned

pub made_none : Made [] [] []
made_none = record { shaped = nothing_shaped; freed = refl }

pub made_more : (old new : List Cell) (hs owned : List Ptr) (p : Ptr) → Made old hs owned → AddsHead old new p → Made new (hs ++ p ∷ []) (owned ++ p ∷ [])
made_more old new hs owned p m B = record {
  shaped = subst (Shaped new) (sym (map-append lone hs (p ∷ []))) (head_shaped old new p (map lone hs) m.shaped B);
  freed = head_places old new p (map lone hs) m.shaped B ∙ ap (λ l. p ∷ l) m.freed ∙ sym (reverse-append owned (p ∷ []));
}

lone_firsts : (hs : List Ptr) → map first_of (map lone hs) ≡ hs
lone_firsts [] = refl
lone_firsts (h ∷ hs) = ap (λ l. h ∷ l) (lone_firsts hs)

lone_pages : (c : List Cell) (hs : List Ptr) → map (pages_of c) (map lone hs) ≡ replicate (length hs) []
lone_pages c [] = refl
lone_pages c (h ∷ hs) = ap (λ l. [] ∷ l) (lone_pages c hs)

pub made_sound : (c : List Cell) (s : Ptr) (hs owned : List Ptr) → Made c (s ∷ hs) owned → Sound c s hs owned
made_sound c s hs owned m = record {
  shaped = subst (Shaped c) (sym (ap (map (row_at c)) (sym (lone_firsts (s ∷ hs))) ∙ (seen c (map lone (s ∷ hs)) m.shaped).1)) m.shaped;
  freed = m.freed;
}

pub made_empty : (c : List Cell) (hs owned : List Ptr) → Made c hs owned → map (pages_at c) hs ≡ replicate (length hs) []
made_empty c hs owned m = ap (map (pages_at c)) (sym (lone_firsts hs)) ∙ (seen c (map lone hs) m.shaped).0 ∙ lone_pages c hs

abbrev ptrs : List NodePtr → List Ptr
ptrs = map (λ n. n.ptr)

pub made_start : (old new : List Cell) (p : NodePtr) (heads before all : List NodePtr) → old ≡ [] → AddsHead old new p.ptr → heads ≡ [] → before ≡ [] → all ≡ before ++ p ∷ [] → Made new (p.ptr ∷ ptrs heads) (ptrs all)
made_start old new p heads before all eo B eh en ea =
    subst (λ (q : List NodePtr × List NodePtr). Made new (p.ptr ∷ ptrs q.0) (ptrs q.1)) (λ i. (sym eh i, (sym (ea ∙ ap (λ l. l ++ p ∷ []) en)) i)) (made_more old new [] [] p.ptr (subst (λ l. Made l [] []) (sym eo) made_none) B)

pub made_next : (old new : List Cell) (s : Ptr) (heads all heads' all' : List NodePtr) (p : NodePtr) → Made old (s ∷ ptrs heads) (ptrs all) → AddsHead old new p.ptr → heads' ≡ heads ++ p ∷ [] → all' ≡ all ++ p ∷ [] → Made new (s ∷ ptrs heads') (ptrs all')
made_next old new s heads all heads' all' p m B eh ea =
    subst (λ (q : List Ptr × List Ptr). Made new (s ∷ q.0) q.1) (λ i. ((sym (ap ptrs eh ∙ map-append (λ (n : NodePtr). n.ptr) heads (p ∷ []))) i, (sym (ap ptrs ea ∙ map-append (λ (n : NodePtr). n.ptr) all (p ∷ []))) i))
    (made_more old new (s ∷ ptrs heads) (ptrs all) p.ptr m B)

pub made_rings : (c : List Cell) (s : Ptr) (heads : List NodePtr) (owned : List Ptr) (n : ℕ) → Made c (s ∷ ptrs heads) owned → length heads ≡ n → (map (pages_at c) (ptrs heads) ≡ replicate n []) × (length (pages_at c s) ≡ 0)
made_rings c s heads owned n m e =
    let all = made_empty c (s ∷ ptrs heads) owned m in
    (ap tail_of all ∙ ap (λ k. replicate k []) (length-map heads (λ (n : NodePtr). n.ptr) ∙ e), ap (λ l. length (first_or l)) all)
