-- The rows of all rings, after a run has moved from one to another.
use Rattle.std.proofs.Common.{◌≡◌, ℕ, ◌+◌, ◌<◌, ◌≤◌, false, List, [], ◌∷◌, ◌++◌, length, get_or, set, refl, sym, ap, ◌∙◌, subst, arith, inl, inr, length-set, length-append, get_or-set_same, get_or-set_other}
use Rattle.std.specs.Prelude.{◌≢◌, IsTrue}
use Rattle.std.specs.List.{AllByRecursion}
use Rattle.std.proofs.lemmas.Bool.Decides.{eqb_tells}
use denote.RawPtr.{Ptr}
use Rattle.mb_frames.specs.Cells.{Cell, is_at, next_at, prev_at, head_at, places, Keeps, Links, Moves, Stays}
use Rattle.mb_frames.specs.Counts.{times, total}
use Rattle.mb_frames.specs.Shape.{Round, Headed, Shaped}
use Rattle.mb_frames.specs.Pages.{page}
use Rattle.mb_frames.specs.Walks.{page_of}
use Rattle.mb_frames.proofs.Cells.{is_kept}
use Rattle.mb_frames.proofs.Sums.{total_at, total_set, total_two}
use Rattle.mb_frames.proofs.Chains.{last, one_self, times_cons, times_append, times_last, Relinks}
use Rattle.mb_frames.proofs.Runs.{rest3, to3, others3, left_in_row, right_in_row, tail_in_row, run_in_row}

pub all_append : (P : Ptr → Type 0) (xs ys : List Ptr) → AllByRecursion P xs → AllByRecursion P ys → AllByRecursion P (xs ++ ys)
all_append P [] ys a b = b
all_append P (x ∷ xs) ys a b = (a.0, all_append P xs ys a.1 b)

pub all_cut : (P : Ptr → Type 0) (xs ys : List Ptr) → AllByRecursion P (xs ++ ys) → AllByRecursion P xs × AllByRecursion P ys
all_cut P [] ys a = (tt, a)
all_cut P (x ∷ xs) ys a = let r = all_cut P xs ys a.1 in ((a.0, r.0), r.1)

pub all_map : (P Q : Ptr → Type 0) → ((p : Ptr) → P p → Q p) → (xs : List Ptr) → AllByRecursion P xs → AllByRecursion Q xs
all_map P Q f [] a = tt
all_map P Q f (x ∷ xs) a = (f x a.0, all_map P Q f xs a.1)

pub places_length : (cs : List Cell) → length (places cs) ≡ length cs
places_length [] = refl
places_length (c ∷ cs) = omega (arith, places_length cs)

pub headed_kept : (old new : List Cell) → ((q : Ptr) → head_at new q ≡ head_at old q) → (row : List Ptr) → Headed old row → Headed new row
headed_kept old new e [] a = a
headed_kept old new e (h ∷ ps) a = (e h ∙ a.0, all_map (λ p. head_at old p ≡ false) (λ p. head_at new p ≡ false) (λ p b. e p ∙ b) ps a.1)

relinks : (old new : List Cell) (a b : Ptr) → Links old new a b → Relinks (next_at old) (prev_at old) (next_at new) (prev_at new) a b
relinks old new a b l = record { next = l.next; prev = l.prev }

pub keeps_all : (old new : List Cell) (f l t : Ptr) → Moves old new f l t → Keeps old new
keeps_all old new f l t m = record {
  places = m.ends.keeps.places ∙ m.begins.keeps.places ∙ m.closes.keeps.places;
  heads = λ q. m.ends.keeps.heads q ∙ m.begins.keeps.heads q ∙ m.closes.keeps.heads q;
}

pub page_all : (old new : List Cell) (f l t : Ptr) → Moves old new f l t → (q : Ptr) → page_of new q ≡ page_of old q
page_all old new f l t m q = λ i. page q ((m.ends.block q ∙ m.begins.block q ∙ m.closes.block q) i) ((m.ends.bytes q ∙ m.begins.bytes q ∙ m.closes.bytes q) i)

module _ (rows : List (List Ptr)) (i j : ℕ) (differ : i ≢ j) (wi : i < length rows) (wj : j < length rows) where
  abbrev pub moved_rows : List Ptr → List Ptr → List (List Ptr)
  moved_rows A B = set (set rows i A) j B

  pub moved_length : (A B : List Ptr) → length (moved_rows A B) ≡ length rows
  moved_length A B = length-set (set rows i A) j B ∙ length-set rows i A

  -- what holds of the two new rows and of each other one
  pub moved_each : (A B : List Ptr) (P : List Ptr → Type 0) → P A → P B → ((k : ℕ) → k < length rows → k ≢ i → k ≢ j → P (get_or rows k [])) → (k : ℕ) → k < length (moved_rows A B) → P (get_or (moved_rows A B) k [])
  moved_each A B P a b other k w =
      let v : k < length rows = omega (arith, w, moved_length A B) in
      elim (eqb_tells k j) as (λ _. P (get_or (moved_rows A B) k [])) [
        | inl e ↦ subst P (sym (ap (λ m. get_or (moved_rows A B) m []) e.1 ∙ get_or-set_same (set rows i A) j B [] (omega (arith, wj, length-set rows i A)))) b
        | inr n ↦ elim (eqb_tells k i) as (λ _. P (get_or (moved_rows A B) k [])) [
          | inl e ↦ subst P (sym (get_or-set_other (set rows i A) j k B [] n.1 ∙ ap (λ m. get_or (set rows i A) m []) e.1 ∙ get_or-set_same rows i A [] wi)) a
          | inr m ↦ subst P (sym (get_or-set_other (set rows i A) j k B [] n.1 ∙ get_or-set_other rows i k A [] m.1)) (other k v m.1 n.1)
        ]
      ]

  pub moved_total : (f : List Ptr → ℕ) (A B : List Ptr) → f A + f B ≡ f (get_or rows i []) + f (get_or rows j []) → total f (moved_rows A B) ≡ total f rows
  moved_total f A B e = omega (
    arith,
    e,
    total_set f [] rows i A wi,
    total_set f [] (set rows i A) j B (omega (arith, wj, length-set rows i A)),
    ap f (get_or-set_other rows i j A [] (λ s. differ (sym s))),
  )

pub in_row : (cs : List Cell) (rows : List (List Ptr)) (s : Shaped cs rows) (k : ℕ) → k < length rows → (q : Ptr) → 1 ≤ times q (get_or rows k []) → IsTrue (is_at q cs)
in_row cs rows s k w q m = s.here q (omega (arith, m, total_at (times q) [] rows k w))

module _ (rows : List (List Ptr)) (i j : ℕ) (differ : i ≢ j) (wi : i < length rows) (wj : j < length rows) (h : Ptr) (xs : List Ptr) (u : Ptr) (us ys : List Ptr) (t : Ptr) (ts : List Ptr)
    (ei : get_or rows i [] ≡ h ∷ (xs ++ ((u ∷ us) ++ ys))) (ej : get_or rows j [] ≡ t ∷ ts) where
  abbrev pub rest : List Ptr
  rest = h ∷ (xs ++ ys)

  abbrev pub grown : List Ptr
  grown = t ∷ (ts ++ u ∷ us)

  apart_two : (q : Ptr) → total (times q) rows ≤ 1 → times q (h ∷ (xs ++ ((u ∷ us) ++ ys))) + times q (t ∷ ts) ≤ 1
  apart_two q a = omega (arith, a, total_two (times q) [] rows i j differ wi wj, ap (times q) ei, ap (times q) ej)

  sum_times : (q : Ptr) → times q rest + times q grown ≡ times q (get_or rows i []) + times q (get_or rows j [])
  sum_times q =
      let a : times q (get_or rows i []) ≡ times q (h ∷ (xs ++ ((u ∷ us) ++ ys))) = ap (times q) ei in let b : times q (get_or rows j []) ≡ times q (t ∷ ts) = ap (times q) ej in
      omega (
        arith,
        a,
        b,
        times_cons q h (xs ++ ((u ∷ us) ++ ys)),
        times_append q xs ((u ∷ us) ++ ys),
        times_append q (u ∷ us) ys,
        times_cons q h (xs ++ ys),
        times_append q xs ys,
        times_cons q t (ts ++ u ∷ us),
        times_append q ts (u ∷ us),
        times_cons q t ts,
      )

  sum_length : length rest + length grown ≡ length (get_or rows i []) + length (get_or rows j [])
  sum_length =
      let a : length (get_or rows i []) ≡ length (h ∷ (xs ++ ((u ∷ us) ++ ys))) = ap length ei in let b : length (get_or rows j []) ≡ length (t ∷ ts) = ap length ej in
      omega (arith, a, b, length-append xs ((u ∷ us) ++ ys), length-append (u ∷ us) ys, length-append xs ys, length-append ts (u ∷ us))

  pub same_times : (q : Ptr) → total (times q) (moved_rows rows i j differ wi wj rest grown) ≡ total (times q) rows
  same_times q = moved_total rows i j differ wi wj (times q) rest grown (sum_times q)

  module _ (old : List Cell) (s : Shaped old rows) where
    round_i : Round (next_at old) (prev_at old) (h ∷ (xs ++ ((u ∷ us) ++ ys)))
    round_i = subst (Round (next_at old) (prev_at old)) ei (s.rounds i wi)

    round_j : Round (next_at old) (prev_at old) (t ∷ ts)
    round_j = subst (Round (next_at old) (prev_at old)) ej (s.rounds j wj)

    at_i : (q : Ptr) → 1 ≤ times q (h ∷ (xs ++ ((u ∷ us) ++ ys))) → IsTrue (is_at q old)
    at_i q m = in_row old rows s i wi q (subst (λ r. 1 ≤ times q r) (sym ei) m)

    at_j : (q : Ptr) → 1 ≤ times q (t ∷ ts) → IsTrue (is_at q old)
    at_j q m = in_row old rows s j wj q (subst (λ r. 1 ≤ times q r) (sym ej) m)

    abbrev D : (q : Ptr) → times q (h ∷ (xs ++ ((u ∷ us) ++ ys))) + times q (t ∷ ts) ≤ 1
    D q = apart_two q (s.apart q)

    -- what the move asks of its nodes
    pub ends_at : IsTrue (is_at u old) × IsTrue (is_at (last u us) old) × IsTrue (is_at t old)
    ends_at = (
      at_i u (run_in_row h xs u us ys t ts u (omega (arith, times_cons u u us, one_self u))),
      at_i (last u us) (run_in_row h xs u us ys t ts (last u us) (times_last u us)),
      at_j t (omega (arith, times_cons t t ts, one_self t)),
    )

    pub sides_at : IsTrue (is_at (prev_at old u) old) × IsTrue (is_at (next_at old (last u us)) old) × IsTrue (is_at (prev_at old t) old)
    sides_at = (
      at_i (prev_at old u) (left_in_row h xs u us ys t ts D (next_at old) (prev_at old) round_i round_j),
      at_i (next_at old (last u us)) (right_in_row h xs u us ys t ts D (next_at old) (prev_at old) round_i round_j),
      at_j (prev_at old t) (tail_in_row h xs u us ys t ts D (next_at old) (prev_at old) round_i round_j),
    )

    module _ (new : List Cell) (m : Moves old new u (last u us) t) where
      abbrev K : Keeps old new
      K = keeps_all old new u (last u us) t m

      pub moved : Shaped new (moved_rows rows i j differ wi wj rest grown)
      moved =
          let n0 = next_at old in let p0 = prev_at old in let n1 = next_at m.one in let p1 = prev_at m.one in let n2 = next_at m.two in let p2 = prev_at m.two in let n3 = next_at new in let p3 = prev_at new in
          let l1 = relinks old m.one (prev_at old u) (next_at old (last u us)) m.closes in let l2 = relinks m.one m.two (prev_at old t) u m.begins in let l3 = relinks m.two new (last u us) t m.ends in
          let hi = subst (Headed old) ei (s.headed i wi) in let hj = subst (Headed old) ej (s.headed j wj) in let Q : Ptr → Type 0 = λ p. head_at old p ≡ false in
          let a = all_cut Q xs ((u ∷ us) ++ ys) hi.1 in let b = all_cut Q (u ∷ us) ys a.1 in
          record {
            rounds = moved_each rows i j differ wi wj rest grown (Round n3 p3)
                (rest3 h xs u us ys t ts D n0 p0 n1 p1 n2 p2 n3 p3 l1 l2 l3 round_i round_j)
                (to3 h xs u us ys t ts D n0 p0 n1 p1 n2 p2 n3 p3 l1 l2 l3 round_i round_j)
                (λ k w ni nj. others3 h xs u us ys t ts D n0 p0 n1 p1 n2 p2 n3 p3 l1 l2 l3 round_i round_j (get_or rows k []) (λ q one_in. omega (
                  arith,
                  one_in,
                  s.apart q,
                  total_two (times q) [] rows k i ni w wi,
                  total_two (times q) [] rows k j nj w wj,
                  ap (times q) ei,
                  ap (times q) ej,
                )) (s.rounds k w));
            headed = moved_each rows i j differ wi wj rest grown (Headed new)
                (headed_kept old new K.heads rest (hi.0, all_append Q xs ys a.0 b.1))
                (headed_kept old new K.heads grown (hj.0, all_append Q ts (u ∷ us) hj.1 b.0))
                (λ k w ni nj. headed_kept old new K.heads (get_or rows k []) (s.headed k w));
            apart = λ q. omega (arith, s.apart q, same_times q);
            here = λ q w. is_kept old new q K (s.here q (omega (arith, w, same_times q)));
            bounded = omega (arith, s.bounded, moved_total rows i j differ wi wj length rest grown sum_length, ap length K.places, places_length old, places_length new);
          }

-- a change of what pages hold
pub stayed : (old new : List Cell) (rows : List (List Ptr)) → Stays old new → Shaped old rows → Shaped new rows
stayed old new rows w s = record {
  rounds = λ k v. subst (λ (f : (Ptr → Ptr) × (Ptr → Ptr)). Round f.0 f.1 (get_or rows k [])) (λ i. ((λ q. sym (w.next q) i), (λ q. sym (w.prev q) i))) (s.rounds k v);
  headed = λ k v. headed_kept old new w.keeps.heads (get_or rows k []) (s.headed k v);
  apart = s.apart;
  here = λ q v. is_kept old new q w.keeps (s.here q v);
  bounded = omega (arith, s.bounded, ap length w.keeps.places, places_length old, places_length new);
}
