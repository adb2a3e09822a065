-- A core that begins over a disk, as the driver sees it.
use Rattle.std.proofs.Common.{◌≡◌, ℕ, zero, suc, Option, None, Result, Ok, Err, IfOk, length, slice_get, refl, ap, sym, subst, ◌∙◌, arith}
use Rattle.std.specs.Prelude.{replicate}
use Rattle.std.specs.FinMap as fin
use Rattle.std.proofs.lemmas.List.{length-map}
use Rattle.mb_cache.specs.State.{CacheState}
use Rattle.mb_core_events.specs.Beginning.{IsBegunOver}
use Rattle.mb_core_spec.specs.Begun.{begun_core, idle}
use Rattle.mb_core_spec.specs.Bounds.{IsConfig}
use Rattle.mb_core_spec.specs.Callers.{total}
use Rattle.mb_core_spec.specs.Right.{Right}
use Rattle.mb_core_spec.specs.State.{CallerState, CoreState, JournalRoom}
use Rattle.mb_core_spec.specs.declared.config.Config.{Config}
use Rattle.mb_core_spec.specs.declared.stages.Stage.TheVariants as stage
use Rattle.mb_edge.specs.Damage.{OpenCounts}
use Rattle.mb_jobs.specs.declared.jobs.Caller.{Caller}
use Rattle.mb_jobs.specs.declared.jobs.Job.{Job}
use Rattle.mb_kinds.specs.Image.{Image}
use Rattle.mb_run.specs.CoreSight.{seat_of, sight_of}
use Rattle.mb_run.specs.Drives.{IsBegun}
use Rattle.mb_run.specs.Sights.{IsOrderlyInSight}
use Rattle.mb_run.proofs.Completing.{calls_few}
use Rattle.mb_headline.specs.Headline.{IsConfigOf}
use Rattle.mb_headline.specs.Laws.{IsBegunFor, MayBeginAll}
use Rattle.mb_headline.proofs.Reading.{no_some}

pub idle_seat : (n caller : ℕ) → seat_of (slice_get (replicate n idle) caller) ≡ record { begun = 0; flight = None }
idle_seat zero caller = refl
idle_seat (suc n) zero = refl
idle_seat (suc n) (suc caller) = idle_seat n caller

total_idle : (n : ℕ) (f : CallerState → ℕ) → f idle ≡ 0 → total f (replicate n idle) ≡ 0
total_idle zero f none = refl
total_idle (suc n) f none = let rest = total_idle n f none in omega (arith, rest, none)

no_stage : stage.Running ≡ stage.Failed → ⊥
no_stage same = cc

no_fault : stage.Running ≡ stage.Struck → ⊥
no_fault same = cc

no_recovery : stage.Running ≡ stage.Again → ⊥
no_recovery same = cc

module _ {F D : Type 0} (fs : F) (first : D) (config : Config) (cache : CacheState D) (opens : OpenCounts) (room : JournalRoom) (good : IsConfig config) where
  abbrev core : CoreState F D
  core = begun_core fs first config cache opens room

  begun_orderly : IsOrderlyInSight (sight_of core)
  begun_orderly = record {
    above = tt;
    below = tt;
    apart = tt;
    records = omega arith;
    limit = good.limit;
    callers = good.callers;
    left = omega arith;
    struck = λ is. absurd (no_fault is);
    again = λ is. absurd (no_recovery is);
    floor = λ holder is. absurd (no_some holder is);
    fresh = λ holder is runs. absurd (no_some holder is);
    open_calls = λ free. total_idle (length config.callers) _ refl;
    seals = record { few = (let due = good.due in omega (arith, due)); synced = tt };
    covers = omega arith;
    failures = λ goes. tt;
    dropped = λ failed. absurd (no_stage failed);
  }

  pub begun_for : (job : Job) → IsConfigOf job config → MayBeginAll job config → IsBegun job (sight_of core)
  begun_for job is may = record {
    history = refl;
    records = refl;
    trail = refl;
    begun = total_idle (length config.callers) _ refl;
    open_calls = total_idle (length config.callers) _ refl;
    seats = idle_seat (length config.callers);
    callers = ap length is.callers ∙ length-map job.callers (λ (caller : Caller). caller.cred);
    start = is.start;
    most = λ caller. (let few = calls_few job.calls caller in omega (arith, few, may));
    right = begun_orderly;
  }

pub begins_for : {F D : Type 0} (told : D → Option Image) (faults : D → ℕ) (fs : F) (disk : D) (job : Job) (config : Config) (core : CoreState F D)
    → IsBegunOver told faults fs disk config core → Right told faults core → IsConfigOf job config → MayBeginAll job config → IsBegun job (sight_of core)
begins_for {F = F} {D = D} told faults fs disk job config core over right is may =
    let good : IsConfig config = subst IsConfig (ap (λ (c : CoreState F D). c.config) over.begun) right.orderly.bounds in
    subst (λ (c : CoreState F D). IsBegun job (sight_of c)) (sym over.begun) (begun_for fs core.first config core.cache fin.empty core.journal.room good job is may)

-- where it begins at all
pub begins_if : {F D R : Type 0} (told : D → Option Image) (faults : D → ℕ) (fs : F) (disk : D) (job : Job) (config : Config) (found : Result (CoreState F D) R)
    → IfOk found (IsBegunOver told faults fs disk config) → IfOk found (Right told faults) → IsConfigOf job config → MayBeginAll job config → IfOk found (λ core. IsBegun job (sight_of core))
begins_if told faults fs disk job config (Ok core) over right is may = begins_for told faults fs disk job config core over right is may
begins_if told faults fs disk job config (Err why) over right is may = tt

pub runs_begun : {F D : Type 0} (told : D → Option Image) (faults : D → ℕ) (fs : F) (job : Job) (disk : D) (made : CoreState F D) → IsBegunFor told faults fs job disk made → made.stage ≡ stage.Running
runs_begun {F} {D} told faults fs job disk made begun = ap (λ (state : CoreState F D). state.stage) begun.over.begun
