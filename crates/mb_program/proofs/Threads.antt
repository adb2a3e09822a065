-- A core that threads drove, each with a fault injector that goes by the job's plan.
use Rattle.std.proofs.Common.{Bool, true, List, [], ◌∷◌, ℕ, zero, suc, ◌<◌, ◌≡◌, Option, Some, length, ap, arith, subst, ◌∙◌, refl}
use Rattle.std.specs.Prelude.{IfSome, map, replicate}
use Rattle.std.specs.List.{AllByRecursion}
use Rattle.mb_core_spec.specs.Right.{Right}
use Rattle.mb_core_spec.specs.State.{CoreState}
use Rattle.mb_edge.specs.declared.crossings.Crossing.{Crossing}
use Rattle.mb_fsops.specs.declared.v7.V7.{V7}
use Rattle.mb_headline.specs.Laws.{IsBegunFor}
use Rattle.mb_jobs.specs.declared.jobs.Job.{Job}
use Rattle.mb_kinds.specs.Image.{Image}
use Rattle.mb_kinds.specs.declared.faults.FaultRecord.{FaultRecord}
use Rattle.mb_plan.specs.Fires.{fires}
use Rattle.mb_plan.specs.Hooked.{Hooked}
use Rattle.mb_plan.specs.declared.rules.Rule.{Rule}
use Rattle.mb_run.specs.CoreSight.{sight_of}
use Rattle.mb_run.specs.Drives.{IsBegun, IsDrivenApart}
use Rattle.mb_run.specs.Recovering.{crossing_of}
use Rattle.mb_run.specs.Sights.{Sight}
use Rattle.mb_threads.specs.Driven.{test_of}
use Rattle.mb_core_spec.specs.declared.config.Config.{Config}
use Rattle.mb_program.specs.Outcomes.{IsDrivenFor}
use Rattle.mb_program.specs.declared.manners.Manner.TheVariants as manners

-- the test of a plan's fault injector
abbrev plan_test : Hooked → Option (Crossing → Bool)
plan_test hook = Some (fires hook.rules)

-- each caller's fault injector has the plan's test
alike : (count caller : ℕ) (hook : Hooked) → caller < count → test_of (map plan_test (replicate count hook)) caller ≡ Some (fires hook.rules)
alike zero caller hook low = absurd (omega (arith, low))
alike (suc count) zero hook low = refl
alike (suc count) (suc caller) hook low = alike count caller hook (omega (arith, low))

-- the records are of declared callers, so each one's test is the plan's
holds_by_plan : (tests : ℕ → Option (Crossing → Bool)) (test : Option (Crossing → Bool)) (count : ℕ) (records : List FaultRecord)
    → ((caller : ℕ) → caller < count → tests caller ≡ test) → AllByRecursion (λ (fault : FaultRecord). fault.caller < count) records
    → AllByRecursion (λ (fault : FaultRecord). IfSome (tests fault.caller) (λ fires. fires (crossing_of fault) ≡ true)) records
    → AllByRecursion (λ (fault : FaultRecord). IfSome test (λ fires. fires (crossing_of fault) ≡ true)) records
holds_by_plan tests test count [] same low holds = tt
holds_by_plan tests test count (fault ∷ records) same low holds = (
  subst (λ (t : Option (Crossing → Bool)). IfSome t (λ fires. fires (crossing_of fault) ≡ true)) (same fault.caller low.0) holds.0,
  holds_by_plan tests test count records same low.1 holds.1,
)

by_plan : (job : Job) (asked : ℕ) (tests : ℕ → Option (Crossing → Bool)) (count : ℕ) (old new : Sight)
    → ((caller : ℕ) → caller < count → tests caller ≡ Some (fires job.plan)) → AllByRecursion (λ (fault : FaultRecord). fault.caller < count) new.records
    → IsDrivenApart job asked tests old new → IsDrivenApart job asked (λ (caller : ℕ). Some (fires job.plan)) old new
by_plan job asked tests count old new same low drives = record {
  config = drives.config;
  free = drives.free;
  own_calls = drives.own_calls;
  begun = drives.begun;
  moments = drives.moments;
  sound = record { holds = holds_by_plan tests (Some (fires job.plan)) count new.records same low drives.sound.holds; apart = drives.sound.apart };
  once = drives.once;
  seals = drives.seals;
  prompt = drives.prompt;
  late = drives.late;
}

pub driven_by_threads : {D : Type 0} (told : D → Option Image) (faults : D → ℕ) (fs : V7) (job : Job) (disk : D) (begun driven : CoreState V7 D) (hooks : List Hooked) (hook : Hooked)
    → hooks ≡ replicate (length job.callers) hook → hook.rules ≡ job.plan → IsBegun job (sight_of begun) → Right told faults driven → IsBegunFor told faults fs job disk begun → driven.first ≡ begun.first → driven.config ≡ begun.config
    → IsDrivenApart job 0 (test_of (map plan_test hooks)) (sight_of begun) (sight_of driven) → IsDrivenFor told faults manners.Threads fs job disk driven
driven_by_threads {D = D} told faults fs job disk begun driven hooks hook all rules start right over first config drives =
    let same : (caller : ℕ) → caller < length job.callers → test_of (map plan_test hooks) caller ≡ Some (fires job.plan) =
    λ caller low. ap (λ (h : List Hooked). test_of (map plan_test h) caller) all ∙ alike (length job.callers) caller hook low ∙ ap (λ (r : List Rule). Some (fires r)) rules in
    let declared : length driven.config.callers ≡ length job.callers = ap (λ (c : Config). length c.callers) config ∙ start.callers in
    let low = subst (λ n. AllByRecursion (λ (fault : FaultRecord). fault.caller < n) driven.journal.records) declared right.orderly.numbered.recorded in
    record {
      begun = begun;
      over = over;
      first = first;
      config = config;
      drives = by_plan job 0 (test_of (map plan_test hooks)) (length job.callers) (sight_of begun) (sight_of driven) same low drives;
      order = tt;
    }
