-- What all threads left, put together.
use Rattle.std.proofs.Common.{◌≡◌, ◌≢◌, List, [], ◌∷◌, ◌++◌, ℕ, zero, suc, ◌+◌, ◌<◌, ◌≤◌, Bool, true, false, cond, nat_eq, length, map, inl, inr, refl, ap, sym, subst, ◌∙◌, arith, Option, None, Some, slice_get, IfSome}
use Rattle.std.proofs.lemmas.Bool.{eq-eqb, eqb-false, eqb-true}
use Rattle.std.specs.List.{AllByRecursion, filter}
use Rattle.mb_core_order.proofs.OwnEntries.{AreOf, none_left, others, others_above, own_and_others, own_others}
use Rattle.mb_core_spec.specs.Callers.{begun, total}
use Rattle.mb_core_spec.specs.State.{CallerState, records_of}
use Rattle.mb_kinds.specs.Own.{own}
use Rattle.mb_kinds.specs.declared.entries.Entry.{Entry}
use Rattle.mb_kinds.specs.declared.faults.FaultRecord.{FaultRecord}
use Rattle.mb_run.proofs.Lists.{all_map, neq}
use Rattle.mb_run.specs.Runs.{IsStruckOnceIfPlain, strikes_inside}
use Rattle.mb_run.specs.Served.{AreApart, AreStruckOnce, IsApart}
use Rattle.mb_run.specs.Sights.{Sight}
use Rattle.mb_volume.specs.Parts.{part_of}
use Rattle.mb_volume.proofs.Once.{own_strikes}
use Rattle.mb_volume.proofs.Telling.{own_callers}
use Rattle.mb_threads.specs.Workers.{MetOnceIfPlain}
use Rattle.mb_threads.proofs.Covering.{all_and}

-- ---- every call that was begun has its entry

pub begun_all : (callers : List CallerState) (history : List Entry) (first : ℕ) → ((place : ℕ) (mine : CallerState) → slice_get callers place ≡ Some mine → mine.begun ≡ length (own history (first + place)))
    → AreOf first (length callers) history → begun callers ≡ length history
begun_all [] history first each all = sym (ap length (none_left history first all))
begun_all (mine ∷ callers) history first each all =
    let here : mine.begun ≡ length (own history first) = each 0 mine refl ∙ ap (λ n. length (own history n)) (omega arith) in
    let rest : begun callers ≡ length (others history first) = begun_all callers (others history first) (first + 1)
    (λ place one there. each (suc place) one there ∙ ap (λ n. length (own history n)) (omega arith) ∙ ap length (sym (own_others history first (first + 1 + place) (λ same. absurd (omega (arith, same))))))
    (others_above history first (length callers) (all_map (λ (e : Entry). (first ≤ e.caller) × (e.caller < first + length (mine ∷ callers))) (λ (e : Entry). (first ≤ e.caller) × (e.caller < first + (length callers + 1))) history (λ e is. (is.0, omega (arith, is.1))) all)) in
    omega (arith, here, rest, own_and_others history first)

-- ---- fault records are apart where each caller's are

unfiltered : {X : Type 0} (P : X → Type 0) (p : X → Bool) (xs : List X) → ((x : X) → p x ≡ false → P x) → AllByRecursion P (filter p xs) → AllByRecursion P xs
unfiltered P p [] other all = tt
unfiltered P p (x ∷ xs) other all =
    elim (p x) as (λ b. p x ≡ b → AllByRecursion P (cond b (x ∷ filter p xs) (filter p xs)) → AllByRecursion P (x ∷ xs)) [
      | true ↦ λ is kept. (kept.0, unfiltered P p xs other kept.1)
      | false ↦ λ is kept. (other x is, unfiltered P p xs other kept)
    ] refl all

pub apart_by : (records : List FaultRecord) → ((caller : ℕ) → AreApart (records_of records caller)) → AreApart records
apart_by [] each = tt
apart_by (fault ∷ records) each =
    let mine : AllByRecursion (IsApart fault) (records_of records fault.caller) × AreApart (records_of records fault.caller) =
    subst (λ b. AreApart (cond b (fault ∷ records_of records fault.caller) (records_of records fault.caller))) (eq-eqb fault.caller fault.caller refl) (each fault.caller) in (
      unfiltered (IsApart fault) (λ (r : FaultRecord). nat_eq r.caller fault.caller) records (λ r other same. absurd (let wrong : true ≡ false = sym (eq-eqb r.caller fault.caller (sym (ap (λ (f : FaultRecord). f.caller) same))) ∙ other in cc)) mine.0,
      apart_by records (λ caller. elim (nat_eq fault.caller caller) as (λ b. AreApart (cond b (fault ∷ records_of records caller) (records_of records caller)) → AreApart (records_of records caller)) [
        | true ↦ λ all. all.1
        | false ↦ λ all. all
      ] (each caller)),
    )

-- ---- no call was struck twice before it had its entry and then answered plainly

each_own : (P : Entry → Type 0) (history : List Entry) (count : ℕ) → ((caller : ℕ) → caller < count → AllByRecursion P (own history caller)) → AllByRecursion (λ (e : Entry). e.caller < count → P e) history
each_own P [] count each = tt
each_own P (entry ∷ history) count each = (
  (λ low. (let mine : AllByRecursion P (entry ∷ own history entry.caller) = subst (λ b. AllByRecursion P (cond b (entry ∷ own history entry.caller) (own history entry.caller))) (eq-eqb entry.caller entry.caller refl) (each entry.caller low) in mine.0)),
  each_own P history count (λ caller low. elim (nat_eq entry.caller caller) as (λ b. AllByRecursion P (cond b (entry ∷ own history caller) (own history caller)) → AllByRecursion P (own history caller)) [
    | true ↦ λ all. all.1
    | false ↦ λ all. all
  ] (each caller low)),
)

pub once_of_parts : (sight : Sight) (callers : ℕ) → ((caller : ℕ) → caller < callers → AllByRecursion (MetOnceIfPlain (part_of sight caller).struck) (part_of sight caller).entries)
    → AreStruckOnce callers sight.history sight.records
once_of_parts sight callers each =
    each_own (IsStruckOnceIfPlain sight.records) sight.history callers
    (λ caller low. all_and (λ (e : Entry). e.caller ≡ caller) (MetOnceIfPlain (records_of sight.records caller)) (IsStruckOnceIfPlain sight.records) (own sight.history caller)
    (λ e mine once plain. subst (λ n. strikes_inside sight.records n e.ordinal ≤ 1) (sym mine) (let same = own_strikes sight.records caller e.ordinal in let few = once plain in omega (arith, same, few))) (own_callers sight.history caller) (each caller low))
