-- A run is taken out of one row, and linked in at the end of another.
use Rattle.std.proofs.Common.{◌≡◌, ◌+◌, ◌≤◌, List, [], ◌∷◌, ◌++◌, refl, sym, ap, ◌∙◌, subst, arith, append_assoc}
use denote.RawPtr.{Ptr}
use Rattle.mb_frames.specs.Counts.{times}
use Rattle.mb_frames.specs.Shape.{Linked, Round}
use Rattle.mb_frames.proofs.Chains.{last, sources, one, one_self, times_none, times_cons, times_append, times_sources, times_last, last_append, cut_chain, join_chain, Relinks, new_link, kept_chain, kept_round}

-- the list with h at its end, by its first and the rest
record Opened (ys : List Ptr) (h : Ptr) : Type 0 where
  pub z : Ptr
  pub zs : List Ptr
  pub is : ys ++ h ∷ [] ≡ z ∷ zs
  pub end : last z zs ≡ h

opened : (ys : List Ptr) (h : Ptr) → Opened ys h
unfolding last
opened [] h = record { z = h; zs = []; is = refl; end = refl }
opened (y ∷ ys) h = record { z = y; zs = ys ++ h ∷ []; is = refl; end = last_append y ys h [] }

module _ (h : Ptr) (xs : List Ptr) (u : Ptr) (us ys : List Ptr) (t : Ptr) (ts : List Ptr) where
  abbrev pub from_row : List Ptr
  from_row = h ∷ (xs ++ ((u ∷ us) ++ ys))

  abbrev o : Opened ys h
  o = opened ys h

  module _ (D : (q : Ptr) → times q from_row + times q (t ∷ ts) ≤ 1) where
    whole : (q : Ptr) → one h q + times q xs + times q (u ∷ us) + times q ys + times q (t ∷ ts) ≤ 1
    whole q = let d : times q (h ∷ (xs ++ ((u ∷ us) ++ ys))) + times q (t ∷ ts) ≤ 1 = D q in omega (arith, d, times_cons q h (xs ++ ((u ∷ us) ++ ys)), times_append q xs ((u ∷ us) ++ ys), times_append q (u ∷ us) ys)

    opened_times : (q : Ptr) → times q (o.z ∷ o.zs) ≡ times q ys + one h q
    opened_times q = omega (arith, ap (times q) o.is, times_append q ys (h ∷ []), times_cons q h [], times_none q)

    -- what the first link leaves: from the run's left neighbour to its right one
    left_out : (q : Ptr) → 1 ≤ one h q + times q xs → q ≡ last h xs → (times q (sources h xs) ≡ 0) × (times q (sources u us) ≡ 0) × (times q (sources o.z o.zs) ≡ 0) × (times q (sources t ts) ≡ 0)
    left_out q w e =
        let all = whole q in let at : one (last h xs) q ≡ 1 = ap (λ r. one r q) (sym e) ∙ one_self q in (
          omega (arith, all, w, at, times_sources q h xs, times_cons q h xs),
          omega (arith, all, w, times_sources q u us),
          omega (arith, all, w, times_sources q o.z o.zs, opened_times q, ap (λ r. one r q) o.end),
          omega (arith, all, w, times_sources q t ts),
        )

    right_in : (times o.z xs ≡ 0) × (times o.z us ≡ 0) × (times o.z o.zs ≡ 0) × (times o.z ts ≡ 0)
    right_in =
        let q = o.z in let all = whole q in let w = opened_times q in let c = times_cons q o.z o.zs in let s = one_self q in (
          omega (arith, all, w, c, s),
          omega (arith, all, w, c, s, times_cons q u us),
          omega (arith, all, w, c, s),
          omega (arith, all, w, c, s, times_cons q t ts),
        )

    -- the second: from the other row's last to the run's first
    tail_out : (q : Ptr) → 1 ≤ times q (t ∷ ts) → q ≡ last t ts → (times q (sources h (xs ++ o.z ∷ o.zs)) ≡ 0) × (times q (sources u us) ≡ 0) × (times q (sources t ts) ≡ 0)
    tail_out q w e =
        let all = whole q in let at : one (last t ts) q ≡ 1 = ap (λ r. one r q) (sym e) ∙ one_self q in (
          omega (arith, all, w, times_sources q h (xs ++ o.z ∷ o.zs), times_cons q h (xs ++ o.z ∷ o.zs), times_append q xs (o.z ∷ o.zs), opened_times q, ap (λ r. one r q) (last_append h xs o.z o.zs ∙ o.end)),
          omega (arith, all, w, times_sources q u us),
          omega (arith, all, w, at, times_sources q t ts),
        )

    first_in : (times u (xs ++ o.z ∷ o.zs) ≡ 0) × (times u us ≡ 0) × (times u ts ≡ 0)
    first_in =
        let all = whole u in let s = one_self u in let c = times_cons u u us in (
          omega (arith, all, s, c, times_append u xs (o.z ∷ o.zs), opened_times u),
          omega (arith, all, s, c),
          omega (arith, all, s, c, times_cons u t ts),
        )

    -- the third: from the run's last to the other row's head
    last_out : (q : Ptr) → 1 ≤ times q (u ∷ us) → q ≡ last u us → (times q (sources h (xs ++ o.z ∷ o.zs)) ≡ 0) × (times q (sources t (ts ++ u ∷ us)) ≡ 0)
    last_out q w e =
        let all = whole q in let at : one (last u us) q ≡ 1 = ap (λ r. one r q) (sym e) ∙ one_self q in (
          omega (arith, all, w, times_sources q h (xs ++ o.z ∷ o.zs), times_cons q h (xs ++ o.z ∷ o.zs), times_append q xs (o.z ∷ o.zs), opened_times q, ap (λ r. one r q) (last_append h xs o.z o.zs ∙ o.end)),
          omega (arith, all, w, at, times_sources q t (ts ++ u ∷ us), ap (λ r. one r q) (last_append t ts u us), times_cons q t (ts ++ u ∷ us), times_append q ts (u ∷ us), times_cons q t ts),
        )

    head_in : (times t (xs ++ o.z ∷ o.zs) ≡ 0) × (times t (ts ++ u ∷ us) ≡ 0)
    head_in =
        let all = whole t in let s = one_self t in let c = times_cons t t ts in (
          omega (arith, all, s, c, times_append t xs (o.z ∷ o.zs), opened_times t),
          omega (arith, all, s, c, times_append t ts (u ∷ us)),
        )

    run_last : (u : Ptr) (us : List Ptr) → last (last h xs) (u ∷ us) ≡ last u us
    unfolding last
    run_last u us = refl

    -- the row's chain in its parts
    parts : (n p : Ptr → Ptr) → Round n p from_row → Linked n p h xs × Linked n p (last h xs) (u ∷ us) × Linked n p (last u us) (o.z ∷ o.zs)
    parts n p r =
        let whole_chain = subst (Linked n p h) (append_assoc xs ((u ∷ us) ++ ys) (h ∷ []) ∙ ap (λ k. xs ++ k) (append_assoc (u ∷ us) ys (h ∷ []) ∙ ap (λ k. (u ∷ us) ++ k) o.is)) r in
        let a = cut_chain n p h xs ((u ∷ us) ++ (o.z ∷ o.zs)) whole_chain in
        let b = cut_chain n p (last h xs) (u ∷ us) (o.z ∷ o.zs) a.1 in
        (a.0, b.0, subst (λ k. Linked n p k (o.z ∷ o.zs)) (run_last u us) b.1)

    module _ (n0 p0 n1 p1 n2 p2 n3 p3 : Ptr → Ptr)
        (one_ : Relinks n0 p0 n1 p1 (p0 u) (n0 (last u us))) (two_ : Relinks n1 p1 n2 p2 (p0 t) u) (three_ : Relinks n2 p2 n3 p3 (last u us) t)
        (R : Round n0 p0 from_row) (S : Round n0 p0 (t ∷ ts)) where
      abbrev P : Linked n0 p0 h xs × Linked n0 p0 (last h xs) (u ∷ us) × Linked n0 p0 (last u us) (o.z ∷ o.zs)
      P = parts n0 p0 R

      tail : Linked n0 p0 t ts × Linked n0 p0 (last t ts) (t ∷ [])
      tail = cut_chain n0 p0 t ts (t ∷ []) S

      r1 : Relinks n0 p0 n1 p1 (last h xs) o.z
      r1 = subst (λ (k : Ptr × Ptr). Relinks n0 p0 n1 p1 k.0 k.1) (λ i. (P.1.1 i, P.2.0 i)) one_

      r2 : Relinks n1 p1 n2 p2 (last t ts) u
      r2 = subst (λ (k : Ptr). Relinks n1 p1 n2 p2 k u) tail.1.1 two_

      out1 : (times (last h xs) (sources h xs) ≡ 0) × (times (last h xs) (sources u us) ≡ 0) × (times (last h xs) (sources o.z o.zs) ≡ 0) × (times (last h xs) (sources t ts) ≡ 0)
      out1 = left_out (last h xs) (omega (arith, times_last h xs, times_cons (last h xs) h xs)) refl

      out2 : (times (last t ts) (sources h (xs ++ o.z ∷ o.zs)) ≡ 0) × (times (last t ts) (sources u us) ≡ 0) × (times (last t ts) (sources t ts) ≡ 0)
      out2 = tail_out (last t ts) (times_last t ts) refl

      out3 : (times (last u us) (sources h (xs ++ o.z ∷ o.zs)) ≡ 0) × (times (last u us) (sources t (ts ++ u ∷ us)) ≡ 0)
      out3 = last_out (last u us) (times_last u us) refl

      -- after the first link
      rest1 : Linked n1 p1 h (xs ++ o.z ∷ o.zs)
      rest1 =
          let new = new_link n0 p0 n1 p1 (last h xs) o.z r1 in
          join_chain n1 p1 h xs (o.z ∷ o.zs) (kept_chain n0 p0 n1 p1 (last h xs) o.z r1 h xs out1.0 right_in.0 P.0)
          (new.0, new.1, kept_chain n0 p0 n1 p1 (last h xs) o.z r1 o.z o.zs out1.2 right_in.2 P.2.2)

      run1 : Linked n1 p1 u us
      run1 = kept_chain n0 p0 n1 p1 (last h xs) o.z r1 u us out1.1 right_in.1 P.1.2

      to1 : Linked n1 p1 t ts
      to1 = kept_chain n0 p0 n1 p1 (last h xs) o.z r1 t ts out1.3 right_in.3 tail.0

      -- after the second
      rest2 : Linked n2 p2 h (xs ++ o.z ∷ o.zs)
      rest2 = kept_chain n1 p1 n2 p2 (last t ts) u r2 h (xs ++ o.z ∷ o.zs) out2.0 first_in.0 rest1

      to2 : Linked n2 p2 t (ts ++ u ∷ us)
      to2 =
          let new = new_link n1 p1 n2 p2 (last t ts) u r2 in
          join_chain n2 p2 t ts (u ∷ us) (kept_chain n1 p1 n2 p2 (last t ts) u r2 t ts out2.2 first_in.2 to1)
          (new.0, new.1, kept_chain n1 p1 n2 p2 (last t ts) u r2 u us out2.1 first_in.1 run1)

      -- after the third
      pub rest3 : Round n3 p3 (h ∷ (xs ++ ys))
      rest3 =
          subst (Linked n3 p3 h) (sym (append_assoc xs ys (h ∷ []) ∙ ap (λ k. xs ++ k) o.is))
          (kept_chain n2 p2 n3 p3 (last u us) t three_ h (xs ++ o.z ∷ o.zs) out3.0 head_in.0 rest2)

      pub to3 : Round n3 p3 (t ∷ (ts ++ u ∷ us))
      to3 =
          let new = new_link n2 p2 n3 p3 (last u us) t three_ in
          join_chain n3 p3 t (ts ++ u ∷ us) (t ∷ []) (kept_chain n2 p2 n3 p3 (last u us) t three_ t (ts ++ u ∷ us) out3.1 head_in.1 to2)
          (subst (λ k. Linked n3 p3 k (t ∷ [])) (sym (last_append t ts u us)) (new.0, new.1, tt))

      pub others3 : (row : List Ptr) → ((q : Ptr) → 1 ≤ times q from_row + times q (t ∷ ts) → times q row ≡ 0) → Round n0 p0 row → Round n3 p3 row
      others3 row none r =
          let in_from : (q : Ptr) → 1 ≤ one h q + times q xs + times q (u ∷ us) + times q ys → times q row ≡ 0 = λ q w. let m : 1 ≤ times q (h ∷ (xs ++ ((u ∷ us) ++ ys))) + times q (t ∷ ts) = omega (arith, w, times_cons q h (xs ++ ((u ∷ us) ++ ys)), times_append q xs ((u ∷ us) ++ ys), times_append q (u ∷ us) ys) in none q m in
          kept_round n2 p2 n3 p3 (last u us) t three_ row (in_from (last u us) (omega (arith, times_last u us))) (none t (omega (arith, times_cons t t ts, one_self t)))
          (kept_round n1 p1 n2 p2 (last t ts) u r2 row (none (last t ts) (omega (arith, times_last t ts))) (in_from u (omega (arith, times_cons u u us, one_self u)))
          (kept_round n0 p0 n1 p1 (last h xs) o.z r1 row (in_from (last h xs) (omega (arith, times_last h xs, times_cons (last h xs) h xs))) (in_from o.z (omega (arith, opened_times o.z, times_cons o.z o.z o.zs, one_self o.z))) r))

    -- the neighbours of the run and the other row's last, which the three links name
    module _ (n p : Ptr → Ptr) (R : Round n p from_row) (S : Round n p (t ∷ ts)) where
      pub left_is : p u ≡ last h xs
      left_is = (parts n p R).1.1

      pub right_in_row : 1 ≤ times (n (last u us)) from_row
      right_in_row =
          let q = o.z in let at : n (last u us) ≡ q = (parts n p R).2.0 in
          let m : 1 ≤ times q (h ∷ (xs ++ ((u ∷ us) ++ ys))) = omega (arith, opened_times q, times_cons q o.z o.zs, one_self q, times_cons q h (xs ++ ((u ∷ us) ++ ys)), times_append q xs ((u ∷ us) ++ ys), times_append q (u ∷ us) ys) in
          subst (λ k. 1 ≤ times k from_row) (sym at) m

      pub left_in_row : 1 ≤ times (p u) from_row
      left_in_row =
          let q = last h xs in
          let m : 1 ≤ times q (h ∷ (xs ++ ((u ∷ us) ++ ys))) = omega (arith, times_last h xs, times_cons q h xs, times_cons q h (xs ++ ((u ∷ us) ++ ys)), times_append q xs ((u ∷ us) ++ ys)) in
          subst (λ k. 1 ≤ times k from_row) (sym left_is) m

      pub tail_in_row : 1 ≤ times (p t) (t ∷ ts)
      tail_in_row = subst (λ k. 1 ≤ times k (t ∷ ts)) (sym (cut_chain n p t ts (t ∷ []) S).1.1) (times_last t ts)

  pub run_in_row : (q : Ptr) → 1 ≤ times q (u ∷ us) → 1 ≤ times q from_row
  run_in_row q w =
      let m : 1 ≤ times q (h ∷ (xs ++ ((u ∷ us) ++ ys))) = omega (arith, w, times_cons q h (xs ++ ((u ∷ us) ++ ys)), times_append q xs ((u ∷ us) ++ ys), times_append q (u ∷ us) ys) in m
