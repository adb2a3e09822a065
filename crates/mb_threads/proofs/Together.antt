-- What a job that was run by threads leaves.
use Rattle.std.proofs.Common.{◌≡◌, ◌≢◌, ◌⊎◌, List, [], ◌∷◌, ◌++◌, ℕ, zero, suc, ◌+◌, ◌<◌, ◌≤◌, Bool, true, false, cond, nat_eq, length, map, inl, inr, refl, ap, sym, subst, ◌∙◌, arith, Option, None, Some, slice_get, IfSome}
use Rattle.std.proofs.lemmas.Bool.{eq-eqb, eqb-true}
use Rattle.std.proofs.lemmas.Bool.Decides.{leb_tells}
use Rattle.std.proofs.lemmas.Option.{slice_get_within}
use Rattle.std.specs.List.{AllByRecursion, AllZip, filter, range_with_len}
use Rattle.atomic_table.specs.Seated.{TableId}
use Rattle.mb_core_spec.specs.Callers.{begun}
use Rattle.mb_core_spec.specs.Numbers.{IsEntry}
use Rattle.mb_core_spec.specs.Right.{Right}
use Rattle.mb_core_spec.specs.State.{CallerState, CoreState, records_of}
use Rattle.mb_core_spec.specs.declared.config.Config.{Config}
use Rattle.mb_edge.specs.declared.crossings.Crossing.{Crossing}
use Rattle.mb_jobs.specs.declared.jobs.Job.{Job}
use Rattle.mb_jobs.specs.declared.jobs.JobCall.{JobCall}
use Rattle.mb_kinds.specs.Image.{Image}
use Rattle.mb_kinds.specs.Own.{own}
use Rattle.mb_kinds.specs.declared.entries.Entry.{Entry}
use Rattle.mb_kinds.specs.declared.faults.FaultRecord.{FaultRecord}
use Rattle.mb_run.proofs.Completing.{each_moment}
use Rattle.mb_run.proofs.Lists.{all_map, neq}
use Rattle.mb_run.specs.CoreSight.{seat_of, sight_of}
use Rattle.mb_run.specs.Drives.{HasEachMoment, IsBegun, IsDrivenApart}
use Rattle.mb_run.specs.Recovering.{crossing_of}
use Rattle.mb_run.specs.Served.{AreApart, AreSound, calls_in, calls_of}
use Rattle.mb_run.specs.Sights.{IsOrderlyInSight, Limits, SightSeat, Sight, limits_of, amiss_in}
use Rattle.mb_turn.specs.Passes.{IsIdle, Known, dealt, known}
use Rattle.mb_volume.proofs.Changing.{part_follows}
use Rattle.mb_volume.specs.Parts.{Part, part_of, stand_in}
use Rattle.mb_volume.specs.Passing.{IsLater, part_in, seen_by}
use Rattle.mb_volume.specs.Shared.{Shared}
use Rattle.mb_threads.specs.Driven.{test_of}
use Rattle.mb_threads.specs.Workers.{HasMadeCalls, IsReady, IsWorked}
use Rattle.mb_threads.proofs.Covering.{all_and, all_in, all_out, dealt_are, dealt_callers, one_with, taken, tests_are, zip_all, zip_map}
use Rattle.mb_threads.proofs.Gathering.{apart_by, begun_all}

map_twice : {X Y Z : Type 0} (f : Y → Z) (g : X → Y) (xs : List X) → map f (map g xs) ≡ map (λ x. f (g x)) xs
map_twice f g [] = refl
map_twice f g (x ∷ xs) = ap (λ zs. f (g x) ∷ zs) (map_twice f g xs)

pub map_long : {X Y : Type 0} (f : X → Y) (xs : List X) → length (map f xs) ≡ length xs
map_long f [] = refl
map_long f (x ∷ xs) = ap (λ n. suc n) (map_long f xs)

range_long : (first count : ℕ) → length (range_with_len first count) ≡ count
range_long first zero = refl
range_long first (suc count) = ap (λ n. suc n) (range_long (first + 1) count)

-- ---- the passes that are dealt

pub dealt_long : {T : Type 0} (table : TableId) (count : ℕ) (value : T) → length (dealt table count value) ≡ count
dealt_long table count value = map_long (λ caller. known table caller value false) (range_with_len 0 count) ∙ range_long 0 count

idle_all : {T : Type 0} (table : TableId) (value : T) (callers : List ℕ) → AllByRecursion (IsIdle table) (map (λ caller. known table caller value false) callers)
idle_all table value [] = tt
idle_all table value (caller ∷ callers) = ((refl, refl), idle_all table value callers)

pub dealt_idle : {T : Type 0} (table : TableId) (count : ℕ) (value : T) (passes : List (Known T)) → passes ≡ dealt table count value → AllByRecursion (IsIdle table) passes
dealt_idle table count value passes same = subst (AllByRecursion (IsIdle table)) (sym same) (idle_all table value (range_with_len 0 count))

pub dealt_first : {T : Type 0} (P : Known T → Type 0) (table : TableId) (count : ℕ) (value : T) (passes : List (Known T)) → passes ≡ dealt table count value → 1 ≤ count → AllByRecursion P passes → P (known table 0 value false)
dealt_first P table zero value passes same some all = absurd (omega (arith, some))
dealt_first P table (suc count) value passes same some all = (subst (AllByRecursion P) same all).0

-- ---- fault records of all callers

pub none_other : (records : List FaultRecord) (count caller : ℕ) → AllByRecursion (λ (f : FaultRecord). f.caller < count) records → count ≤ caller → records_of records caller ≡ []
none_other [] count caller all past = refl
none_other (fault ∷ records) count caller all past =
    ap (λ b. cond b (fault ∷ records_of records caller) (records_of records caller)) (neq fault.caller caller (λ same. absurd (omega (arith, all.0, past, same)))) ∙ none_other records count caller all.1 past

pub holds_by : (P : FaultRecord → Type 0) (records : List FaultRecord) (count : ℕ) → ((caller : ℕ) → caller < count → AllByRecursion P (records_of records caller)) → AllByRecursion (λ (f : FaultRecord). f.caller < count) records → AllByRecursion P records
holds_by P [] count each all = tt
holds_by P (fault ∷ records) count each all =
    let mine : AllByRecursion P (fault ∷ records_of records fault.caller) = subst (λ b. AllByRecursion P (cond b (fault ∷ records_of records fault.caller) (records_of records fault.caller))) (eq-eqb fault.caller fault.caller refl) (each fault.caller all.0) in (
      mine.0,
      holds_by P records count (λ caller low. elim (nat_eq fault.caller caller) as (λ b. AllByRecursion P (cond b (fault ∷ records_of records caller) (records_of records caller)) → AllByRecursion P (records_of records caller)) [
        | true ↦ λ kept. kept.1
        | false ↦ λ kept. kept
      ] (each caller low)) all.1,
    )

-- ---- the workers

module _ {F D W : Type 0} (pass : W → Known (Shared F D)) (test : W → Option (Crossing → Bool)) (calls : W → List JobCall) (stopped : W → Bool) (table : TableId) (value : Shared F D) (count : ℕ) (job : List JobCall) (tests : List (Option (Crossing → Bool)))
    (ws : List W) (passes : map pass ws ≡ dealt table count value) (hooks : map test ws ≡ tests) (all : AllByRecursion (λ w. calls w ≡ job) ws) where
  callers_are : map (λ w. (pass w).caller) ws ≡ range_with_len 0 count
  callers_are = sym (map_twice (λ (p : Known (Shared F D)). p.caller) pass ws) ∙ ap (map (λ (p : Known (Shared F D)). p.caller)) passes ∙ dealt_callers table value (range_with_len 0 count)

  are_dealt : AllByRecursion (λ w. pass w ≡ known table (pass w).caller value false) ws
  are_dealt = all_in (λ (p : Known (Shared F D)). p ≡ known table p.caller value false) pass ws (subst (AllByRecursion (λ (p : Known (Shared F D)). p ≡ known table p.caller value false)) (sym passes) (dealt_are table value (range_with_len 0 count)))

  pub ready : ((caller : ℕ) (t : Option (Crossing → Bool)) → IsReady table (known table caller value false) t job) → AllByRecursion (λ w. IsReady table (pass w) (test w) (calls w)) ws
  ready each = all_and (λ w. pass w ≡ known table (pass w).caller value false) (λ w. calls w ≡ job) (λ w. IsReady table (pass w) (test w) (calls w)) ws
      (λ w is its. subst (λ (p : Known (Shared F D)). IsReady table p (test w) (calls w)) (sym is) (subst (IsReady table (known table (pass w).caller value false) (test w)) (sym its) (each (pass w).caller (test w)))) are_dealt all

  module _ (done : List W) (zip : AllZip (λ w d. IsWorked table (pass w) (pass d) (test w) (calls w) (stopped d)) ws done) where
    done_callers : map (λ d. (pass d).caller) done ≡ range_with_len 0 count
    done_callers = zip_map (λ w d. IsWorked table (pass w) (pass d) (test w) (calls w) (stopped d)) (λ w. (pass w).caller) (λ d. (pass d).caller) ws done (λ w d is. is.later.caller) zip ∙ callers_are

    pub done_long : length (map pass done) ≡ count
    done_long = sym (map_long (λ (p : Known (Shared F D)). p.caller) (map pass done)) ∙ ap length (map_twice (λ (p : Known (Shared F D)). p.caller) pass done) ∙ ap length done_callers ∙ range_long 0 count

    pub done_idle : AllByRecursion (IsIdle table) (map pass done)
    done_idle = all_out (IsIdle table) pass done (zip_all (λ w d. IsWorked table (pass w) (pass d) (test w) (calls w) (stopped d)) (λ w. calls w ≡ job) (λ d. IsIdle table (pass d)) ws done (λ w d its is. is.later.idle) zip all)

    pub record IsDone (d : W) : Type 0 where
      pub config : (pass d).value.core.core.config ≡ value.core.core.config
      pub first : (pass d).value.core.core.first ≡ value.core.core.first
      pub seals : amiss_in (seen_by (pass d)) ≤ amiss_in (sight_of value.core.core)
      pub made : stopped d ≡ false → HasMadeCalls (calls_of job (pass d).caller) (test_of tests (pass d).caller) (part_in (pass d))

    all_done : AllByRecursion IsDone done
    all_done = zip_all (λ w d. IsWorked table (pass w) (pass d) (test w) (calls w) (stopped d)) (λ w. (pass w ≡ known table (pass w).caller value false) × (calls w ≡ job) × (test w ≡ test_of tests (pass w).caller)) IsDone ws done
        (λ w d its is. record {
          config = is.later.config ∙ ap (λ (p : Known (Shared F D)). p.value.core.core.config) its.0;
          first = is.later.first ∙ ap (λ (p : Known (Shared F D)). p.value.core.core.first) its.0;
          seals = subst (λ (p : Known (Shared F D)). amiss_in (seen_by (pass d)) ≤ amiss_in (seen_by p)) its.0 is.later.seals;
          made = λ going. subst (λ n. HasMadeCalls (calls_of job n) (test_of tests n) (part_in (pass d))) (sym is.later.caller)
              (subst (λ (t : Option (Crossing → Bool)). HasMadeCalls (calls_of job (pass w).caller) t (part_in (pass d))) its.2 (subst (λ cs. HasMadeCalls (calls_of cs (pass w).caller) (test w) (part_in (pass d))) its.1 (is.made going)));
        }) zip
        (all_and (λ w. pass w ≡ known table (pass w).caller value false) (λ w. (calls w ≡ job) × (test w ≡ test_of tests (pass w).caller)) (λ w. (pass w ≡ known table (pass w).caller value false) × (calls w ≡ job) × (test w ≡ test_of tests (pass w).caller)) ws (λ w one other. (one, other.0, other.1)) are_dealt
        (all_and (λ w. calls w ≡ job) (λ w. test w ≡ test_of tests (pass w).caller) (λ w. (calls w ≡ job) × (test w ≡ test_of tests (pass w).caller)) ws (λ w one other. (one, other)) all (tests_are (λ w. (pass w).caller) test count ws tests callers_are hooks)))

    -- the core that came out
    module _ (core : CoreState F D) (firsts : AllByRecursion (λ (p : Known (Shared F D)). core.first ≡ p.value.core.core.first) (map pass done)) (configs : AllByRecursion (λ (p : Known (Shared F D)). core.config ≡ p.value.core.core.config) (map pass done)) where
      pub out_first : 1 ≤ count → core.first ≡ value.core.core.first
      out_first some = let d = taken (λ d. (pass d).caller ≡ 0) (λ d. IsDone d × (core.first ≡ (pass d).value.core.core.first)) done (one_with (λ d. (pass d).caller) 0 count 0 done done_callers (omega arith) (omega (arith, some)))
          (all_and IsDone (λ d. core.first ≡ (pass d).value.core.core.first) (λ d. IsDone d × (core.first ≡ (pass d).value.core.core.first)) done (λ d one other. (one, other)) all_done (all_in (λ (p : Known (Shared F D)). core.first ≡ p.value.core.core.first) pass done firsts)) in
          d.2.1 ∙ d.2.0.first

      pub out_config : 1 ≤ count → core.config ≡ value.core.core.config
      out_config some = let d = taken (λ d. (pass d).caller ≡ 0) (λ d. IsDone d × (core.config ≡ (pass d).value.core.core.config)) done (one_with (λ d. (pass d).caller) 0 count 0 done done_callers (omega arith) (omega (arith, some)))
          (all_and IsDone (λ d. core.config ≡ (pass d).value.core.core.config) (λ d. IsDone d × (core.config ≡ (pass d).value.core.core.config)) done (λ d one other. (one, other)) all_done (all_in (λ (p : Known (Shared F D)). core.config ≡ p.value.core.core.config) pass done configs)) in
          d.2.1 ∙ d.2.0.config

      pub out_seals : AllByRecursion (λ (p : Known (Shared F D)). amiss_in (sight_of core) ≤ amiss_in (seen_by p)) (map pass done) → 1 ≤ count → amiss_in (sight_of core) ≤ amiss_in (sight_of value.core.core)
      out_seals fewer some =
          let d = taken (λ d. (pass d).caller ≡ 0) (λ d. IsDone d × (amiss_in (sight_of core) ≤ amiss_in (seen_by (pass d)))) done (one_with (λ d. (pass d).caller) 0 count 0 done done_callers (omega arith) (omega (arith, some)))
          (all_and IsDone (λ d. amiss_in (sight_of core) ≤ amiss_in (seen_by (pass d))) (λ d. IsDone d × (amiss_in (sight_of core) ≤ amiss_in (seen_by (pass d)))) done (λ d one other. (one, other)) all_done (all_in (λ (p : Known (Shared F D)). amiss_in (sight_of core) ≤ amiss_in (seen_by p)) pass done fewer)) in
          let low = d.2.1 in
          let more = d.2.0.seals in
          omega (arith, low, more)

      module _ (still : AllByRecursion (λ d. stopped d ≡ false) done) (owns : AllByRecursion (λ (p : Known (Shared F D)). own (sight_of core).history p.caller ≡ (part_in p).entries) (map pass done))
          (stands : AllByRecursion (λ (p : Known (Shared F D)). stand_in (sight_of core) p.caller ≡ stand_in (seen_by p) p.caller) (map pass done)) (size : count ≡ (sight_of value.core.core).config.callers) where
        record Known_of (d : W) : Type 0 where
          done_is : IsDone d
          config : core.config ≡ (pass d).value.core.core.config
          going : stopped d ≡ false
          owned : own (sight_of core).history (pass d).caller ≡ (part_in (pass d)).entries
          stood : stand_in (sight_of core) (pass d).caller ≡ stand_in (seen_by (pass d)) (pass d).caller

        known_all : AllByRecursion Known_of done
        known_all =
            all_and (λ d. IsDone d × (core.config ≡ (pass d).value.core.core.config) × (stopped d ≡ false)) (λ d. (own (sight_of core).history (pass d).caller ≡ (part_in (pass d)).entries) × (stand_in (sight_of core) (pass d).caller ≡ stand_in (seen_by (pass d)) (pass d).caller)) Known_of done
            (λ d one other. record { done_is = one.0; config = one.1; going = one.2; owned = other.0; stood = other.1 })
            (all_and IsDone (λ d. (core.config ≡ (pass d).value.core.core.config) × (stopped d ≡ false)) (λ d. IsDone d × (core.config ≡ (pass d).value.core.core.config) × (stopped d ≡ false)) done (λ d one other. (one, other.0, other.1)) all_done
            (all_and (λ d. core.config ≡ (pass d).value.core.core.config) (λ d. stopped d ≡ false) (λ d. (core.config ≡ (pass d).value.core.core.config) × (stopped d ≡ false)) done (λ d one other. (one, other)) (all_in (λ (p : Known (Shared F D)). core.config ≡ p.value.core.core.config) pass done configs) still))
            (all_and (λ d. own (sight_of core).history (pass d).caller ≡ (part_in (pass d)).entries) (λ d. stand_in (sight_of core) (pass d).caller ≡ stand_in (seen_by (pass d)) (pass d).caller) (λ d. (own (sight_of core).history (pass d).caller ≡ (part_in (pass d)).entries) × (stand_in (sight_of core) (pass d).caller ≡ stand_in (seen_by (pass d)) (pass d).caller)) done (λ d one other. (one, other))
            (all_in (λ (p : Known (Shared F D)). own (sight_of core).history p.caller ≡ (part_in p).entries) pass done owns) (all_in (λ (p : Known (Shared F D)). stand_in (sight_of core) p.caller ≡ stand_in (seen_by p) p.caller) pass done stands))

        -- each caller has made its calls
        pub caller_made : (caller : ℕ) → caller < count → HasMadeCalls (calls_of job caller) (test_of tests caller) (part_of (sight_of core) caller)
        caller_made caller low =
            let d = taken (λ d. (pass d).caller ≡ caller) Known_of done (one_with (λ d. (pass d).caller) 0 count caller done done_callers (omega arith) (omega (arith, low))) known_all in
            let is = d.2 in
            let there : (pass d.0).caller < (seen_by (pass d.0)).config.callers = subst (λ (k : Config). (pass d.0).caller < (limits_of k).callers) (sym is.done_is.config) (omega (arith, d.1, low, size)) in
            let same = part_follows (seen_by (pass d.0)) (sight_of core) (pass d.0).caller there (ap limits_of is.config) is.owned is.stood in
            subst (λ n. HasMadeCalls (calls_of job n) (test_of tests n) (part_of (sight_of core) n)) d.1 (subst (HasMadeCalls (calls_of job (pass d.0).caller) (test_of tests (pass d.0).caller)) (sym same) (is.done_is.made is.going))
