-- Lists of operations carried out: they split, append and lead to one end.
use Rattle.std.proofs.Common.{Bool, true, false, if◌then◌else◌, nat_eq, inl, List, [], ◌∷◌, ◌++◌, ℕ, zero, suc, ◌+◌, ◌≤◌, ◌≡◌, Option, Some, None, take, refl, sym, ◌∙◌, subst, arith}
use Rattle.std.proofs.Math.Path.{fun_ext}
use Rattle.mb_tree.specs.Effect.{TreeAndOpens, hold}
use Rattle.mb_tree.specs.CarriedOut.{PickedOp, IsCarriedOut, AreCarriedOut, FindFewOpens, picked_op}
use Rattle.mb_tree.specs.HistoryLaws.{CarriedOutSplits, CarriedOutAppends, CarriedOutOnce, CarriedOutGoesOn, WorkedOperations}
use Rattle.mb_tree.specs.declared.operations.FsOp.{FsOp}
use Rattle.mb_tree.proofs.Always.{same_ok}

pub one_end : (held next other : TreeAndOpens) (made : PickedOp) → IsCarriedOut held made next → IsCarriedOut held made other → next ≡ other
one_end held next other made one twin = same_ok next other (sym one.leads ∙ twin.leads)

pub carried_out_once : CarriedOutOnce
carried_out_once held last other [] h k = sym h ∙ k
carried_out_once held last other (made ∷ later) h k =
    let same = one_end held k.0 h.0 made k.1 h.1 in
    carried_out_once h.0 last other later h.2 (subst (λ (next : TreeAndOpens). AreCarriedOut next later other) same k.2)

pub carried_out_appends : CarriedOutAppends
carried_out_appends held middle last [] back h k = subst (λ (start : TreeAndOpens). AreCarriedOut start back last) (sym h) k
carried_out_appends held middle last (made ∷ front) back h k = (h.0, h.1, carried_out_appends h.0 middle last front back h.2 k)

pub carried_out_splits : CarriedOutSplits
carried_out_splits held last [] back h = (held, refl, h)
carried_out_splits held last (made ∷ front) back h =
    let rest = carried_out_splits h.0 last front back h.2 in
    (rest.0, (h.0, h.1, rest.1), rest.2)

pub carried_out_goes_on : CarriedOutGoesOn
carried_out_goes_on held last now [] done op whole so_far at = absurd (let no : None ≡ Some op = at in cc)
carried_out_goes_on held last now (made ∷ later) zero op whole so_far at =
    let here : made ≡ op = cc in
    record {
      next = whole.0;
      one = subst (λ (start : TreeAndOpens). IsCarriedOut start op whole.0) so_far (subst (λ (it : PickedOp). IsCarriedOut held it whole.0) here whole.1);
      so_far = (whole.0, whole.1, refl);
      rest = whole.2;
    }
carried_out_goes_on held last now (made ∷ later) (suc done) op whole so_far at =
    let same = one_end held so_far.0 whole.0 made so_far.1 whole.1 in
    let front = subst (λ (next : TreeAndOpens). AreCarriedOut next (take done later) now) same so_far.2 in
    let more = carried_out_goes_on whole.0 last now later done op whole.2 front at in
    let step : suc done + 1 ≡ suc (done + 1) = omega arith in
    record { next = more.next; one = more.one; so_far = rw step (whole.0, whole.1, more.so_far); rest = rw step more.rest }

-- ---- the counts on the way

pub find_few_both : (most : ℕ) (held middle : TreeAndOpens) (front back : List PickedOp) → AreCarriedOut held front middle → FindFewOpens most held front → FindFewOpens most middle back
    → FindFewOpens most held (front ++ back)
find_few_both most held middle [] back leads few rest = subst (λ (start : TreeAndOpens). FindFewOpens most start back) (sym leads) rest
find_few_both most held middle (made ∷ front) back leads few rest = (
  few.0,
  λ next one.
      let same = one_end held leads.0 next made leads.1 one in
      find_few_both most next middle front back (subst (λ (start : TreeAndOpens). AreCarriedOut start front middle) same leads.2) (few.1 next one) rest,
)

pub find_few_ends : (most : ℕ) (held last : TreeAndOpens) (op : Option FsOp) (pick : Option ℕ) → AreCarriedOut held (picked_op op pick) last
    → ((ino : ℕ) → held.opens ino ≤ most) → ((ino : ℕ) → last.opens ino ≤ most) → FindFewOpens most held (picked_op op pick)
find_few_ends most held last None pick leads first end = first
find_few_ends most held last (Some op) pick leads first end =
    (first, λ next one ino. subst (λ (it : TreeAndOpens). it.opens ino ≤ most) (sym leads.2 ∙ one_end held leads.0 next (record { op = op; pick = pick }) leads.1 one) (end ino))

-- ---- a worked example

held_twice : (b : Bool) → (if b then (if b then 0 + 1 else 0) + 1 else (if b then 0 + 1 else 0)) ≡ (if b then 2 else 0)
held_twice true = refl
held_twice false = refl

pub worked_operations : WorkedOperations
worked_operations tree regular =
    let once : TreeAndOpens = record { tree = tree; opens = hold (λ ino. 0) 3 } in
    let twice : TreeAndOpens = record { tree = tree; opens = hold (hold (λ ino. 0) 3) 3 } in
    let end : twice ≡ (record { tree = tree; opens = λ ino. if nat_eq ino 3 then 2 else 0 }) = λ i. record { tree = tree; opens = fun_ext (λ ino. held_twice (nat_eq ino 3)) i } in
    (once, record { fits = inl regular; leads = refl }, (twice, record { fits = inl regular; leads = refl }, end))
