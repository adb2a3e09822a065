-- What a core is that came back from a job run by threads.
use Rattle.std.proofs.Common.{◌≡◌, List, [], ◌∷◌, ℕ, zero, suc, ◌+◌, ◌<◌, ◌≤◌, Bool, true, false, cond, nat_eq, length, map, inl, inr, refl, ap, sym, subst, ◌∙◌, arith, Option, None, Some, slice_get, IfSome}
use Rattle.std.proofs.lemmas.Bool.{eqb-true}
use Rattle.std.proofs.lemmas.Bool.Decides.{leb_tells}
use Rattle.std.proofs.lemmas.Option.{slice_get_within}
use Rattle.std.specs.List.{AllByRecursion}
use Rattle.atomic_table.specs.Seated.{TableId}
use Rattle.mb_core_spec.specs.Numbers.{IsEntry}
use Rattle.mb_core_spec.specs.Right.{Right}
use Rattle.mb_core_spec.specs.State.{CallerState, CoreState, records_of}
use Rattle.mb_core_spec.specs.declared.config.Config.{Config}
use Rattle.mb_edge.specs.declared.crossings.Crossing.{Crossing}
use Rattle.mb_jobs.specs.declared.jobs.Job.{Job}
use Rattle.mb_kinds.specs.Image.{Image}
use Rattle.mb_kinds.specs.Own.{own}
use Rattle.mb_kinds.specs.declared.entries.Entry.{Entry}
use Rattle.mb_kinds.specs.declared.faults.FaultRecord.{FaultRecord}
use Rattle.mb_run.proofs.Completing.{each_moment}
use Rattle.mb_run.proofs.Lists.{all_map}
use Rattle.mb_run.proofs.Omitted.{none_omitted}
use Rattle.mb_run.proofs.Sealings.{none_undue}
use Rattle.mb_run.specs.CoreSight.{seat_of, sight_of}
use Rattle.mb_run.specs.Drives.{HasEachMoment, IsBegun, IsDrivenApart}
use Rattle.mb_run.specs.Recovering.{crossing_of}
use Rattle.mb_run.specs.Served.{AreApart, AreSound, calls_of}
use Rattle.mb_run.specs.Seals.{late, omitted, undue}
use Rattle.mb_run.specs.Sights.{Limits, SightSeat, amiss_in, late_in, limits_of, omitted_in, undue_in}
use Rattle.mb_turn.specs.Passes.{known}
use Rattle.mb_run.proofs.InTime.{InTime}
use Rattle.mb_volume_core.proofs.Orderly.{orderly}
use Rattle.mb_volume.specs.Called.{AreOfFirst}
use Rattle.mb_volume.specs.Parts.{Part, part_of}
use Rattle.mb_volume.specs.Shared.{Shared}
use Rattle.mb_threads.specs.Driven.{test_of}
use Rattle.mb_threads.specs.Workers.{HasMadeCalls, IsReady, MetOnceIfPlain}
use Rattle.mb_threads.proofs.Covering.{all_and}
use Rattle.mb_threads.proofs.Gathering.{apart_by, begun_all, once_of_parts}
use Rattle.mb_threads.proofs.Together.{holds_by, map_long, none_other}

-- a core that was begun for a job: each caller may make its calls
pub ready_new : {F D : Type 0} (table : TableId) (value : Shared F D) (job : Job) → IsBegun job (sight_of value.core.core) → (caller : ℕ) (t : Option (Crossing → Bool)) → IsReady table (known table caller value false) t job.calls
ready_new table value job begun caller t =
    let none : (part_of (sight_of value.core.core) caller).struck ≡ [] = ap (λ (rs : List FaultRecord). records_of rs caller) begun.records in
    record {
      idle = (refl, refl);
      most = begun.most caller;
      made = record {
        calls = ap (λ (h : List Entry). map (λ (e : Entry). e.call) (own h caller)) begun.history;
        seat = begun.seats caller;
        first = subst (AreOfFirst 0) (sym none) tt;
        sound = subst (AreSound t) (sym none) (record { holds = tt; apart = tt });
        ordinals = subst (λ (h : List Entry). AllByRecursion (λ (e : Entry). e.ordinal ≤ 0) (own h caller)) (sym begun.history) tt;
        once = subst (λ (h : List Entry). AllByRecursion (MetOnceIfPlain (part_of (sight_of value.core.core) caller).struck) (own h caller)) (sym begun.history) tt;
      };
    }

records_callers : (records : List FaultRecord) (caller : ℕ) → AllByRecursion (λ (f : FaultRecord). f.caller ≡ caller) (records_of records caller)
records_callers [] caller = tt
records_callers (fault ∷ records) caller =
    elim (nat_eq fault.caller caller) as (λ b. nat_eq fault.caller caller ≡ b → AllByRecursion (λ (f : FaultRecord). f.caller ≡ caller) (cond b (fault ∷ records_of records caller) (records_of records caller))) [
      | true ↦ λ same. (eqb-true fault.caller caller same, records_callers records caller)
      | false ↦ λ other. records_callers records caller
    ] refl

module _ {F D : Type 0} (told : D → Option Image) (faults : D → ℕ) (core old : CoreState F D) (r : Right told faults core) (job : Job) (tests : List (Option (Crossing → Bool))) (seals : InTime (sight_of core)) (same : core.config ≡ old.config) (begun : IsBegun job (sight_of old))
    (made : (caller : ℕ) → caller < length job.callers → HasMadeCalls (calls_of job.calls caller) (test_of tests caller) (part_of (sight_of core) caller)) where
  size : length core.config.callers ≡ length job.callers
  size = ap (λ (k : Config). length k.callers) same ∙ begun.callers

  recorded : AllByRecursion (λ (f : FaultRecord). f.caller < length job.callers) core.journal.records
  recorded = all_map (λ (f : FaultRecord). f.caller < length core.config.callers) (λ (f : FaultRecord). f.caller < length job.callers) core.journal.records (λ f low. omega (arith, low, size)) r.orderly.numbered.recorded

  -- every call that was begun has its entry
  all_begun : (sight_of core).begun ≡ length core.journal.history
  all_begun = begun_all core.callers core.journal.history 0
      (λ place mine here.
      (let within = slice_get_within core.callers place mine here in
      let low : place < length job.callers = omega (arith, within, r.orderly.numbered.callers_are, size) in
      let has = made place low in
      let seat : mine.begun ≡ length (calls_of job.calls place) = sym (ap (λ (o : Option CallerState). (seat_of o).begun) here) ∙ ap (λ (s : SightSeat). s.begun) has.seat in
      let long : length (calls_of job.calls place) ≡ length (own core.journal.history place) = sym (ap length has.calls) ∙ map_long (λ (e : Entry). e.call) (own core.journal.history place) in
      seat ∙ long ∙ ap (λ n. length (own core.journal.history n)) (omega arith)))
      (all_map (IsEntry core.config.start (core.config.start + (sight_of core).begun) (length core.config.callers)) (λ (e : Entry). (0 ≤ e.caller) × (e.caller < 0 + length core.callers)) core.journal.history
      (λ e is. (omega arith, omega (arith, is.caller, r.orderly.numbered.callers_are))) r.orderly.numbered.entries)

  each_apart : (caller : ℕ) → AreApart (records_of core.journal.records caller)
  each_apart caller = elim (leb_tells (caller + 1) (length job.callers)) [
    | inl low ↦ (made caller (omega (arith, low.1))).sound.apart
    | inr past ↦ subst AreApart (sym (none_other core.journal.records (length job.callers) caller recorded (omega (arith, past.1)))) tt
  ]

  -- no checkpoint was taken or left out when it began
  none_taken : undue_in (sight_of old) ≡ 0
  none_taken = ap (undue (sight_of old).config.threshold (sight_of old).history) begun.trail ∙ none_undue (sight_of old).config.threshold (sight_of old).history

  none_left_out : omitted_in (sight_of old) ≡ 0
  none_left_out = ap (omitted (sight_of old).history) begun.trail ∙ none_omitted (sight_of old).history

  none_late : late_in (sight_of old) ≡ 0
  none_late = ap late begun.history

  pub driven_apart : amiss_in (sight_of core) ≤ amiss_in (sight_of old) → IsDrivenApart job 0 (test_of tests) (sight_of old) (sight_of core)
  driven_apart low = record {
    config = ap limits_of same;
    free = λ caller low. ap (λ (s : SightSeat). s.flight) (made caller (omega (arith, low, size))).seat;
    own_calls = λ caller low. (made caller low).calls;
    begun = all_begun;
    moments = subst (λ n. HasEachMoment n core.journal.history) (ap (λ (k : Config). k.start) same ∙ begun.start) (each_moment (sight_of core) (orderly told faults core r seals) all_begun);
    sound = record {
      holds = holds_by (λ (f : FaultRecord). IfSome (test_of tests f.caller) (λ fires. fires (crossing_of f) ≡ true)) core.journal.records (length job.callers)
          (λ caller low. all_and (λ (f : FaultRecord). f.caller ≡ caller) (λ (f : FaultRecord). IfSome (test_of tests caller) (λ fires. fires (crossing_of f) ≡ true)) (λ (f : FaultRecord). IfSome (test_of tests f.caller) (λ fires. fires (crossing_of f) ≡ true)) (records_of core.journal.records caller)
          (λ f is holds. subst (λ n. IfSome (test_of tests n) (λ fires. fires (crossing_of f) ≡ true)) (sym is) holds) (records_callers core.journal.records caller) (made caller low).sound.holds) recorded;
      apart = apart_by core.journal.records each_apart;
    };
    once = once_of_parts (sight_of core) (length job.callers) (λ caller low. (made caller low).once);
    seals = omega (arith, low, none_taken, none_left_out, none_late);
    prompt = omega (arith, low, none_taken, none_left_out, none_late);
    late = omega (arith, low, none_taken, none_left_out, none_late);
  }
