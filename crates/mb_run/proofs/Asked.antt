-- The checkpoints that an order asks for, and the one at the end of a run.
use Rattle.std.proofs.Common.{◌≡◌, ◌≢◌, inl, inr, List, [], ◌∷◌, ℕ, ◌+◌, ◌<◌, ◌≤◌, Bool, cond, Option, get_or, length, take, refl, ap, sym, subst, ◌∙◌, arith}
use Rattle.std.proofs.lemmas.List.{take_more}
use Rattle.std.proofs.lemmas.List.Sums.{sum_by-append}
use Rattle.mb_edge.specs.declared.crossings.Crossing.{Crossing}
use Rattle.mb_jobs.specs.declared.jobs.JobCall.{JobCall}
use Rattle.mb_run.specs.Orders.{IsSealedNow, IsWhole, asked_in, asks}
use Rattle.mb_run.specs.Settling.{IsFlushed, SealsAtEnd}
use Rattle.mb_run.specs.Sights.{Sight, undue_in}
use Rattle.mb_run.specs.declared.runner.Runner.{Runner}
use Rattle.mb_run.specs.declared.settles.SettleEnd.{SettleEnd}
use Rattle.mb_run.proofs.Lists.{neq}
use Rattle.mb_run.proofs.Moving.{whole_then}
use Rattle.mb_run.specs.Timely.{IsTimely}
use Rattle.mb_run.proofs.Timely.{timely_more, timely_same, timely_seal}

-- ---- by an order

pub asked_more : (order : List ℕ) (index : ℕ) → index < length order → asked_in (take (index + 1) order) ≡ asked_in (take index order) + asked_in (get_or order index 0 ∷ [])
asked_more order index within =
    let one_if_asked : ℕ → ℕ = λ character. cond (asks character) 1 0 in
    ap asked_in (take_more order index 0 within) ∙ sum_by-append one_if_asked (take index order) (get_or order index 0 ∷ [])

-- one character more
pub whole_more : (calls : List JobCall) (test : Option (Crossing → Bool)) (order : List ℕ) (index : ℕ) (a b d : Sight) (r s t : List Runner) → index < length order → IsWhole calls test (asked_in (take index order)) a b r s
    → IsWhole calls test (asked_in (get_or order index 0 ∷ [])) b d s t → IsWhole calls test (asked_in (take (index + 1) order)) a d r t
whole_more calls test order index a b d r s t within one two =
    subst (λ n. IsWhole calls test n a d r t) (sym (asked_more order index within)) (whole_then calls test (asked_in (take index order)) (asked_in (get_or order index 0 ∷ [])) a b d r s t one two)

-- no other character asks for one
pub none_asked : (character : ℕ) → character ≢ 61 → asked_in (character ∷ []) ≡ 0
none_asked character other =
    let one_if_asked : Bool → ℕ = λ b. cond b 1 0 in
    let none : one_if_asked (asks character) ≡ 0 = ap one_if_asked (neq character 61 other) in
    omega (arith, none)

pub whole_asks : (calls : List JobCall) (test : Option (Crossing → Bool)) (character : ℕ) (a b : Sight) (r s : List Runner) → character ≢ 61 → IsWhole calls test 0 a b r s → IsWhole calls test (asked_in (character ∷ [])) a b r s
whole_asks calls test character a b r s other whole = subst (λ n. IsWhole calls test n a b r s) (sym (none_asked character other)) whole

-- `=` asks for one
pub one_asked : (character : ℕ) → character ≡ 61 → asked_in (character ∷ []) ≡ 1
one_asked character is = ap (λ n. asked_in (n ∷ [])) is

pub asked_seals : (character : ℕ) (old new : Sight) → character ≡ 61 → IsSealedNow old new → IsTimely (asked_in (character ∷ [])) old new
asked_seals character old new is seals =
    subst (λ n. IsTimely n old new) (sym (one_asked character is))
    (elim seals [ inl taken ↦ timely_seal old new taken.1 | inr none ↦ timely_more old new 0 1 (omega arith) (timely_same old new none.1) ])

-- ---- at the end of a run

-- the checkpoint ends the trace, and then pages are written back
pub seals_at_end : (first a b d : Sight) (came : SettleEnd) → undue_in a ≤ undue_in first → IsSealedNow a b → IsFlushed b d came → SealsAtEnd first d
seals_at_end first a b d came low seals flush = elim seals [
  | inl taken ↦ subst (SealsAtEnd first) (sym flush.rest) (subst (λ (s : Sight). SealsAtEnd first (record s { sealed = d.sealed })) (sym taken.1) (record { run = a.trail; few = low; ends = inr refl }))
  | inr none ↦ subst (SealsAtEnd first) (sym flush.rest) (subst (λ (s : Sight). SealsAtEnd first (record s { sealed = d.sealed })) (sym none.1) (record { run = a.trail; few = low; ends = inl refl }))
]

-- or none was taken
pub none_at_end : (old new : Sight) → undue_in new ≤ undue_in old → SealsAtEnd old new
none_at_end old new low = record { run = new.trail; few = low; ends = inl refl }
