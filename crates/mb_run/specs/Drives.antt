-- What a run of a job over a core has to begin with, and what it leaves.
use Rattle.std.specs.Prelude.{ℕ, ◌+◌, ◌<◌, ◌≤◌, ◌≡◌, ◌≢◌, List, [], ◌∷◌, length, slice_get, Bool, false, Option, Some, None}
use Rattle.std.specs.List.{AllByRecursion, range_with_len}
use Rattle.mb_core_spec.specs.declared.stages.Stage.{Stage}
use Rattle.mb_core_spec.specs.declared.stages.Stage.TheVariants as stage
use Rattle.mb_edge.specs.declared.crossings.Crossing.{Crossing}
use Rattle.mb_jobs.specs.declared.jobs.Caller.{Caller}
use Rattle.mb_jobs.specs.declared.jobs.Job.{Job}
use Rattle.mb_jobs.specs.declared.jobs.JobCall.{JobCall}
use Rattle.mb_kinds.specs.declared.entries.Entry.{Entry}
use Rattle.mb_run.specs.Calm.{AreAllPlain, HoldsNowhere}
use Rattle.mb_run.specs.Entering.{AreTakenEntering}
use Rattle.mb_run.specs.Letters.{AreLetters, letters_of}
use Rattle.mb_run.specs.Orders.{TakesAsked, asked_by, asked_in}
use Rattle.mb_run.specs.Runs.{EntersFirst, FirstsRise, HasTakenFaults}
use Rattle.mb_run.specs.Served.{AreSound, AreSoundBy, AreStruckOnce, EntriesAreCalls, calls_in, calls_of, moments_in}
use Rattle.mb_run.specs.Timely.{IsTimely}
use Rattle.mb_run.specs.Sights.{AreApart, IsOrderlyInSight, Sight, late_in, omitted_in, undue_in}
use Rattle.mb_core_spec.specs.Copies.{no_pages}
use Rattle.mb_run.specs.declared.runner.At.TheVariants as at
use Rattle.mb_run.specs.declared.runner.Runner.{Runner}
use Rattle.mb_run.specs.declared.drives.DriveEnd.{DriveEnd}
use Rattle.mb_run.specs.declared.drives.DriveEnd.TheVariants as end

-- each call of a job names one of its callers, of which there are at most eight
pub record IsRunnable (job : Job) : Type 0 where
  pub callers : length job.callers ≤ 8
  pub named : AllByRecursion (λ (made : JobCall). made.caller < length job.callers) job.calls
  pub small : length job.calls < 4294967290

-- a core as it was begun for a job: nobody called yet
pub record IsBegun (job : Job) (sight : Sight) : Type 0 where
  pub history : sight.history ≡ []
  pub records : sight.records ≡ []
  pub trail : sight.trail ≡ []
  pub begun : sight.begun ≡ 0
  pub open_calls : sight.open_calls ≡ 0
  pub seats : (caller : ℕ) → sight.seats caller ≡ record { begun = 0; flight = None }
  pub callers : sight.config.callers ≡ length job.callers
  pub start : sight.config.start ≡ job.start
  pub most : (caller : ℕ) → length (calls_of job.calls caller) ≤ sight.config.most
  pub right : IsOrderlyInSight sight

-- every call of the job has its entry, and none is in flight; the fault records are sound
pub record IsComplete (calls : List JobCall) (callers : ℕ) (test : Option (Crossing → Bool)) (sight : Sight) : Type 0 where
  pub free : (caller : ℕ) → caller < callers → (sight.seats caller).flight ≡ None
  pub own_calls : (caller : ℕ) → caller < callers → calls_in sight.history caller ≡ calls_of calls caller
  pub begun : sight.begun ≡ length sight.history
  pub sound : AreSound test sight.records
  pub once : AreStruckOnce callers sight.history sight.records
  pub entered : AreTakenEntering test callers sight.history sight.records

-- the moments of so many entries are the numbers after the start, each once
pub record HasEachMoment (start : ℕ) (history : List Entry) : Type 0 where
  pub above : AllByRecursion (λ (entry : Entry). start < entry.moment) history
  pub below : AllByRecursion (λ (entry : Entry). entry.moment ≤ start + length history) history
  pub apart : AreApart (moments_in history)

-- in list order the entries are the job's calls, in their order, and entry i has the moment start + i
abbrev pub IsLinedUp : Option (List ℕ) → List JobCall → ℕ → List Entry → Type 0
IsLinedUp None calls start history = EntriesAreCalls history calls × (moments_in history ≡ range_with_len (start + 1) (length history))
IsLinedUp (Some order) calls start history = Unit {0}

-- under an order the moments of the callers' first calls rise as their letters, small or capital, first stand in it; the letters
-- are a job's, small ones and no two alike
abbrev pub RisesByOrder : Option (List ℕ) → List Caller → List Entry → Type 0
RisesByOrder None callers history = Unit {0}
RisesByOrder (Some order) callers history = AreLetters (letters_of callers) → FirstsRise order (letters_of callers) history

-- where no fault comes and no call is given up, the trace begins, but for its checkpoints, with the entering of the callers whose
-- letters stand at the beginning of an order, as far as that tells it (`calm_prefix`)
abbrev pub EntersCalmly : List ℕ → List Caller → List JobCall → Option (Crossing → Bool) → Sight → Type 0
EntersCalmly order callers calls test sight =
    HoldsNowhere test → AreLetters (letters_of callers) → AreAllPlain sight.history → EntersFirst calls (letters_of callers) order sight.trail

abbrev pub EntersByOrder : Option (List ℕ) → List Caller → List JobCall → Option (Crossing → Bool) → Sight → Type 0
EntersByOrder None callers calls test sight = Unit {0}
EntersByOrder (Some order) callers calls test sight = EntersCalmly order callers calls test sight

-- in list order the faults that the test tells are taken, and by an order those where calls enter
abbrev pub TakesByOrder : Option (List ℕ) → Option (Crossing → Bool) → Sight → Type 0
TakesByOrder None test sight = HasTakenFaults test sight.history sight.records
TakesByOrder (Some order) test sight = AreTakenEntering test sight.config.callers sight.history sight.records

-- by an order, over a volume that runs, and where no fault came, as many checkpoints were taken at least as the order asks for
abbrev pub SealsByOrder : Option (List ℕ) → Sight → Sight → Type 0
SealsByOrder None old new = Unit {0}
SealsByOrder (Some order) old new = TakesAsked (asked_in order) old new

-- what a job leaves of a core that was begun for it
pub record IsDriven (job : Job) (test : Option (Crossing → Bool)) (old new : Sight) : Type 0 where
  pub config : new.config ≡ old.config
  pub free : (caller : ℕ) → caller < new.config.callers → (new.seats caller).flight ≡ None
  pub own_calls : (caller : ℕ) → caller < length job.callers → calls_in new.history caller ≡ calls_of job.calls caller
  pub begun : new.begun ≡ length new.history
  pub moments : HasEachMoment job.start new.history
  pub lined : IsLinedUp job.order job.calls job.start new.history
  pub firsts : RisesByOrder job.order job.callers new.history
  pub enters : old.stage ≡ stage.Running → old.trail ≡ [] → EntersByOrder job.order job.callers job.calls test new
  pub sound : AreSound test new.records
  -- a call that was struck twice before it had its entry has no plain reply
  pub once : AreStruckOnce (length job.callers) new.history new.records
  pub taken : old.stage ≡ stage.Running → TakesByOrder job.order test new
  -- of the checkpoints no more were taken where none was due than the order asks for; each sync(2) has one right behind; and no
  -- call is told more than four times that a copy of its is stale
  pub seals : IsTimely (asked_by job.order) old new
  pub asks : SealsByOrder job.order old new

-- the end tells whether the volume failed
abbrev pub EndsDrive : Stage → DriveEnd → Type 0
EndsDrive now end.AllDone = now ≢ stage.Failed
EndsDrive now end.VolumeFailed = now ≡ stage.Failed
EndsDrive now end.NoMemory = Unit {0}

-- a caller before its first call
abbrev pub new_runner : ℕ → Runner
new_runner caller = record {
  crossings = record { caller = caller; ordinal = 1; counts = 0 ∷ 0 ∷ 0 ∷ 0 ∷ 0 ∷ 0 ∷ [] };
  done = 0;
  at = at.Outside;
  answered = false;
  asked = false;
  pages = no_pages;
}

pub record AreNew (runners : List Runner) (callers : ℕ) : Type 0 where
  pub size : length runners ≡ callers
  pub each : (caller : ℕ) (runner : Runner) → slice_get runners caller ≡ Some runner → runner ≡ new_runner caller

-- what a job leaves of a core that was begun for it, whichever of its callers went first, where so many checkpoints were asked
-- for; of each caller's faults its own injector's test holds
pub record IsDrivenApart (job : Job) (asked : ℕ) (tests : ℕ → Option (Crossing → Bool)) (old new : Sight) : Type 0 where
  pub config : new.config ≡ old.config
  pub free : (caller : ℕ) → caller < new.config.callers → (new.seats caller).flight ≡ None
  pub own_calls : (caller : ℕ) → caller < length job.callers → calls_in new.history caller ≡ calls_of job.calls caller
  pub begun : new.begun ≡ length new.history
  pub moments : HasEachMoment job.start new.history
  pub sound : AreSoundBy tests new.records
  pub once : AreStruckOnce (length job.callers) new.history new.records
  pub seals : undue_in new ≤ undue_in old + asked
  pub prompt : omitted_in new ≤ omitted_in old
  pub late : late_in new ≤ late_in old
