-- A new node joins the rings.
use Rattle.std.proofs.Common.{◌≡◌, ℕ, zero, suc, ◌+◌, ◌<◌, ◌≤◌, Bool, true, false, ◌||◌, cond, List, [], ◌∷◌, ◌++◌, length, get_or, refl, sym, ap, ◌∙◌, subst, arith, length-append, T}
use Rattle.std.proofs.lemmas.Bool.{true≢false}
use Rattle.std.specs.Prelude.{IsTrue}
use Rattle.std.specs.List.{AllByRecursion}
use denote.RawPtr.{Ptr}
use Rattle.std.specs.Global.{Global}
use Rattle.mb_frames.specs.declared.node.Node.{Node}
use Rattle.mb_frames.specs.Pointers.{same_ptr}
use Rattle.mb_frames.specs.Counts.{total, times}
use Rattle.mb_frames.specs.Cells.{Cell, cell, places, IsFresh, has, is_at, read, next_at, prev_at, head_at, block_at, bytes_at, Adopts, Adds}
use Rattle.mb_frames.specs.Shape.{Linked, Round, Headed, Shaped}
use Rattle.mb_frames.specs.Pages.{page}
use Rattle.mb_frames.specs.Walks.{page_of}
use Rattle.mb_frames.proofs.Pointers.{same_ptr_eq, same_ptr_refl}
use Rattle.mb_frames.proofs.Chains.{last, one, one_self, times_none, times_cons, times_append, times_sources, times_last, last_append, cut_chain, join_chain, Relinks, new_link, kept_chain, kept_round}
use Rattle.mb_frames.proofs.Shapes.{places_length, headed_kept, all_append}
use Rattle.mb_frames.proofs.Sums.{total_at}

-- a new place is none of the old ones
fresh_differs : (p q : Ptr) (ps : List Ptr) → IsFresh p ps → IsTrue (has q ps) → same_ptr p q ≡ false
unfolding has
fresh_differs p q [] f t = absurd (subst T (sym t) tt)
fresh_differs p q (r ∷ rs) f t = (elim (same_ptr r q) as (λ y. same_ptr r q ≡ y → same_ptr p q ≡ false) [
  | true ↦ λ e. subst (λ k. same_ptr p k ≡ false) (same_ptr_eq r q e) f.0
  | false ↦ λ e. fresh_differs p q rs f.1 (subst (λ y. IsTrue (y || has q rs)) e t)
]) refl

fresh_none : (p : Ptr) (ps : List Ptr) → IsFresh p ps → IsTrue (has p ps) → ⊥
fresh_none p ps f t = true≢false (sym (same_ptr_refl p) ∙ fresh_differs p p ps f t)

pub adopts : (old new : List Cell) (p : Ptr) (a : Global) (n : Node) (h : Bool) → new ≡ cell a p n ∷ old → n.is_head ≡ h → IsFresh p (places old) → Adopts old new p h
adopts old new p a n h is e f = record { alloc = a; node = n; is = is; head = e; fresh = f }

module _ (old one_ : List Cell) (p : Ptr) (h : Bool) (A : Adopts old one_ p h) where
  read_old : {X : Type 0} (f : Node → X) (d : X) (q : Ptr) → same_ptr p q ≡ false → read f d one_ q ≡ read f d old q
  unfolding read
  read_old f d q e = ap (λ l. read f d l q) A.is ∙ ap (λ y. cond y (f A.node) (read f d old q)) e

  pub differs : (q : Ptr) → IsTrue (is_at q old) → same_ptr p q ≡ false
  differs q t = fresh_differs p q (places old) A.fresh t

  pub head_new : head_at one_ p ≡ h
  unfolding read
  head_new = ap (λ l. head_at l p) A.is ∙ ap (λ y. cond y A.node.is_head (head_at old p)) (same_ptr_refl p) ∙ A.head

  pub there_old : (q : Ptr) → IsTrue (is_at q old) → IsTrue (is_at q one_)
  unfolding has
  there_old q t = subst (λ l. IsTrue (is_at q l)) (sym A.is) ((elim (same_ptr p q) as (λ y. IsTrue (y || has q (places old))) [
    | true ↦ refl
    | false ↦ t
  ]))

  pub there_new : IsTrue (is_at p one_)
  unfolding has
  there_new = subst (λ l. IsTrue (is_at p l)) (sym A.is) (subst (λ y. IsTrue (y || has p (places old))) (sym (same_ptr_refl p)) refl)

  length_one : length one_ ≡ length old + 1
  length_one = ap length A.is ∙ omega arith

  agree_chain : (s : Ptr) (ps : List Ptr) → ((q : Ptr) → 0 < times q (s ∷ ps) → same_ptr p q ≡ false) → Linked (next_at old) (prev_at old) s ps → Linked (next_at one_) (prev_at one_) s ps
  agree_chain s [] f l = tt
  agree_chain s (c ∷ cs) f l = (
    read_old (λ n. n.next.ptr) s s (f s (omega (arith, times_cons s s (c ∷ cs), one_self s))) ∙ l.0,
    read_old (λ n. n.prev.ptr) c c (f c (omega (arith, times_cons c s (c ∷ cs), times_cons c c cs, one_self c))) ∙ l.1,
    agree_chain c cs (λ q w. f q (omega (arith, w, times_cons q s (c ∷ cs)))) l.2,
  )

  agree_round : (row : List Ptr) → ((q : Ptr) → 0 < times q row → same_ptr p q ≡ false) → Round (next_at old) (prev_at old) row → Round (next_at one_) (prev_at one_) row
  agree_round [] f r = r
  agree_round (a ∷ ps) f r = agree_chain a (ps ++ a ∷ []) (λ q w. f q (omega (arith, w, times_cons q a (ps ++ a ∷ []), times_append q ps (a ∷ []), times_cons q a [], times_none q, times_cons q a ps))) r

  agree_all : (ps : List Ptr) → ((q : Ptr) → 0 < times q ps → same_ptr p q ≡ false) → AllByRecursion (λ q. head_at old q ≡ false) ps → AllByRecursion (λ q. head_at one_ q ≡ false) ps
  agree_all [] f a = tt
  agree_all (q ∷ qs) f a = (read_old (λ n. n.is_head) true q (f q (omega (arith, times_cons q q qs, one_self q))) ∙ a.0, agree_all qs (λ r w. f r (omega (arith, w, times_cons r q qs))) a.1)

  agree_headed : (row : List Ptr) → ((q : Ptr) → 0 < times q row → same_ptr p q ≡ false) → Headed old row → Headed one_ row
  agree_headed [] f a = a
  agree_headed (s ∷ ps) f a = (read_old (λ n. n.is_head) true s (f s (omega (arith, times_cons s s ps, one_self s))) ∙ a.0, agree_all ps (λ q w. f q (omega (arith, w, times_cons q s ps))) a.1)

  module _ (rows : List (List Ptr)) (S : Shaped old rows) where
    in_rows : (k : ℕ) → k < length rows → (q : Ptr) → 0 < times q (get_or rows k []) → same_ptr p q ≡ false
    in_rows k w q m = differs q (S.here q (omega (arith, m, total_at (times q) [] rows k w)))

    pub new_times : total (times p) rows ≡ 0
    new_times = (elim (total (times p) rows) as (λ v. total (times p) rows ≡ v → v ≡ 0) [
      | zero ↦ λ e. refl
      | suc v ↦ λ e. absurd (fresh_none p (places old) A.fresh (S.here p (omega (arith, e))))
    ]) refl

    pub adopted : Shaped one_ rows
    adopted = record {
      rounds = λ k w. agree_round (get_or rows k []) (in_rows k w) (S.rounds k w);
      headed = λ k w. agree_headed (get_or rows k []) (in_rows k w) (S.headed k w);
      apart = S.apart;
      here = λ q w. there_old q (S.here q w);
      bounded = omega (arith, S.bounded, length_one);
    }

  pub block_old : (q : Ptr) → IsTrue (is_at q old) → block_at one_ q ≡ block_at old q
  block_old q t = read_old (λ n. n.block) 0 q (differs q t)

  pub bytes_old : (q : Ptr) → IsTrue (is_at q old) → bytes_at one_ q ≡ bytes_at old q
  bytes_old q t = read_old (λ n. n.bytes) [] q (differs q t)

  pub prev_old : (q : Ptr) → IsTrue (is_at q old) → prev_at one_ q ≡ prev_at old q
  prev_old q t = read_old (λ n. n.prev.ptr) q q (differs q t)

last_here : (u : Ptr) → last u [] ≡ u
unfolding last
last_here u = refl

-- the node u is linked in after the last of a row
module _ (t : Ptr) (ts : List Ptr) (u : Ptr) (D : (q : Ptr) → one u q + times q (t ∷ ts) ≤ 1) (n0 p0 n1 p1 n2 p2 : Ptr → Ptr) (r1 : Relinks n0 p0 n1 p1 (p0 t) u) (r2 : Relinks n1 p1 n2 p2 u t) (S : Round n0 p0 (t ∷ ts)) where
  tail : Linked n0 p0 t ts × Linked n0 p0 (last t ts) (t ∷ [])
  tail = cut_chain n0 p0 t ts (t ∷ []) S

  r1' : Relinks n0 p0 n1 p1 (last t ts) u
  r1' = subst (λ k. Relinks n0 p0 n1 p1 k u) tail.1.1 r1

  grown1 : Linked n1 p1 t (ts ++ u ∷ [])
  grown1 =
      let l = last t ts in let new = new_link n0 p0 n1 p1 l u r1' in
      join_chain n1 p1 t ts (u ∷ [])
      (kept_chain n0 p0 n1 p1 l u r1' t ts (omega (arith, D l, times_sources l t ts, one_self l, times_last t ts)) (omega (arith, D u, one_self u, times_cons u t ts)) tail.0) (new.0, new.1, tt)

  pub grown_round : Round n2 p2 (t ∷ (ts ++ u ∷ []))
  grown_round =
      let new = new_link n1 p1 n2 p2 u t r2 in
      join_chain n2 p2 t (ts ++ u ∷ []) (t ∷ [])
      (kept_chain n1 p1 n2 p2 u t r2 t (ts ++ u ∷ [])
      (omega (arith, D u, one_self u, times_sources u t (ts ++ u ∷ []), ap (λ k. one k u) (last_append t ts u []), ap (λ k. one k u) (last_here u), times_cons u t (ts ++ u ∷ []), times_append u ts (u ∷ []), times_cons u u [], times_none u, times_cons u t ts))
      (omega (arith, D t, one_self t, times_append t ts (u ∷ []), times_cons t u [], times_none t, times_cons t t ts)) grown1)
      (subst (λ k. Linked n2 p2 k (t ∷ [])) (sym (last_append t ts u [] ∙ last_here u)) (new.0, new.1, tt))

  pub grown_others : (row : List Ptr) → ((q : Ptr) → 1 ≤ one u q + times q (t ∷ ts) → times q row ≡ 0) → Round n0 p0 row → Round n2 p2 row
  grown_others row none r =
      kept_round n1 p1 n2 p2 u t r2 row (none u (omega (arith, one_self u))) (none t (omega (arith, times_cons t t ts, one_self t)))
      (kept_round n0 p0 n1 p1 (last t ts) u r1' row (none (last t ts) (omega (arith, times_last t ts))) (none u (omega (arith, one_self u))) r)

-- the same for all rows, where the first one grows
module _ (old new : List Cell) (p s : Ptr) (ts : List Ptr) (rest : List (List Ptr)) (S : Shaped old ((s ∷ ts) ∷ rest)) (B : Adds old new p s) where
  abbrev before : List (List Ptr)
  before = (s ∷ ts) ∷ rest

  abbrev after : List (List Ptr)
  after = (s ∷ (ts ++ p ∷ [])) ∷ rest

  S1 : Shaped B.one before
  S1 = adopted old B.one p false B.adopted before S

  s_old : IsTrue (is_at s old)
  s_old = S.here s (omega (arith, total_at (times s) [] before 0 (omega arith), times_cons s s ts, one_self s))

  sum_before : (q : Ptr) → total (times q) before ≡ times q (s ∷ ts) + total (times q) rest
  unfolding total
  sum_before q = refl

  sum_after : (q : Ptr) → total (times q) after ≡ total (times q) before + one p q
  unfolding total
  sum_after q = omega (arith, times_cons q s (ts ++ p ∷ []), times_append q ts (p ∷ []), times_cons q p [], times_none q, times_cons q s ts)

  none_new : total (times p) before ≡ 0
  none_new = new_times old B.one p false B.adopted before S

  apart_new : (q : Ptr) → total (times q) before + one p q ≤ 1
  apart_new q = (elim (same_ptr p q) as (λ y. same_ptr p q ≡ y → total (times q) before + cond y 1 0 ≤ 1) [
    | true ↦ λ e. omega (arith, none_new, ap (λ k. total (times k) before) (same_ptr_eq p q e))
    | false ↦ λ e. omega (arith, S.apart q)
  ]) refl

  keeps_places : places new ≡ places B.one
  keeps_places = B.ends.keeps.places ∙ B.begins.keeps.places

  keeps_heads : (q : Ptr) → head_at new q ≡ head_at B.one q
  keeps_heads q = B.ends.keeps.heads q ∙ B.begins.keeps.heads q

  pub added_places : places new ≡ p ∷ places old
  added_places = keeps_places ∙ ap places B.adopted.is

  rel1 : Relinks (next_at B.one) (prev_at B.one) (next_at B.two) (prev_at B.two) (prev_at B.one s) p
  rel1 = subst (λ k. Relinks (next_at B.one) (prev_at B.one) (next_at B.two) (prev_at B.two) k p) (sym (prev_old old B.one p false B.adopted s s_old)) (record { next = B.begins.next; prev = B.begins.prev })

  rel2 : Relinks (next_at B.two) (prev_at B.two) (next_at new) (prev_at new) p s
  rel2 = record { next = B.ends.next; prev = B.ends.prev }

  D : (q : Ptr) → one p q + times q (s ∷ ts) ≤ 1
  D q = omega (arith, apart_new q, sum_before q)

  rounds_after : (k : ℕ) → k < length after → Round (next_at new) (prev_at new) (get_or after k [])
  rounds_after zero w = grown_round s ts p D (next_at B.one) (prev_at B.one) (next_at B.two) (prev_at B.two) (next_at new) (prev_at new) rel1 rel2 (S1.rounds 0 (omega arith))
  rounds_after (suc k) w = grown_others s ts p D (next_at B.one) (prev_at B.one) (next_at B.two) (prev_at B.two) (next_at new) (prev_at new) rel1 rel2 (S1.rounds 0 (omega arith)) (get_or rest k [])
      (λ q m. omega (arith, m, apart_new q, sum_before q, total_at (times q) [] rest k (omega (arith, w)))) (S1.rounds (suc k) (omega (arith, w)))

  headed_after : (k : ℕ) → k < length after → Headed new (get_or after k [])
  headed_after zero w =
      let a = S1.headed 0 (omega arith) in
      headed_kept B.one new keeps_heads (s ∷ (ts ++ p ∷ [])) (a.0, all_append (λ q. head_at B.one q ≡ false) ts (p ∷ []) a.1 (head_new old B.one p false B.adopted, tt))
  headed_after (suc k) w = headed_kept B.one new keeps_heads (get_or rest k []) (S1.headed (suc k) (omega (arith, w)))

  length_after : total length after ≡ total length before + 1
  unfolding total
  length_after = omega (arith, length-append ts (p ∷ []))

  here_after : (q : Ptr) → 0 < total (times q) before + one p q → IsTrue (is_at q new)
  here_after q w = subst (λ l. IsTrue (has q l)) (sym keeps_places) ((elim (same_ptr p q) as (λ y. same_ptr p q ≡ y → 0 < total (times q) before + cond y 1 0 → IsTrue (is_at q B.one)) [
    | true ↦ λ e v. subst (λ k. IsTrue (is_at k B.one)) (same_ptr_eq p q e) (there_new old B.one p false B.adopted)
    | false ↦ λ e v. S1.here q (omega (arith, v))
  ]) refl w)

  pub added : Shaped new after
  added = record {
    rounds = rounds_after;
    headed = headed_after;
    apart = λ q. omega (arith, sum_after q, apart_new q);
    here = λ q w. here_after q (omega (arith, w, sum_after q));
    bounded = omega (arith, length_after, S.bounded, ap length added_places, places_length old, places_length new);
  }

  pub added_page : (q : Ptr) → IsTrue (is_at q old) → page_of new q ≡ page_of old q
  added_page q t = λ i. page q ((B.ends.block q ∙ B.begins.block q ∙ block_old old B.one p false B.adopted q t) i) ((B.ends.bytes q ∙ B.begins.bytes q ∙ bytes_old old B.one p false B.adopted q t) i)
