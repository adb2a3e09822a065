-- What the steps of an order make of the callers of a job.
use Rattle.std.specs.Prelude.{ℕ, ◌+◌, ◌<◌, ◌≤◌, ◌≡◌, ◌≢◌, ◌⊎◌, List, ◌++◌, Bool, true, false, Option, Some, None, count_by, length, nat_eq, slice_get, slice_index, take}
use Rattle.mb_edge.specs.declared.crossings.Crossing.{Crossing}
use Rattle.mb_core_spec.specs.declared.stages.Stage.TheVariants as stage
use Rattle.mb_jobs.specs.declared.jobs.Caller.{Caller}
use Rattle.mb_jobs.specs.declared.jobs.JobCall.{JobCall}
use Rattle.mb_kinds.specs.declared.entries.Entry.{Entry}
use Rattle.mb_run.specs.Events.{SameCalls, sealed}
use Rattle.mb_run.specs.Firsts.{KeepsFirsts}
use Rattle.mb_run.specs.Pages.{HasTablesFor, has}
use Rattle.mb_run.specs.Timely.{IsTimely}
use Rattle.mb_run.specs.Runs.{is_seal}
use Rattle.mb_run.specs.Seals.{TrailGoesOn}
use Rattle.mb_run.specs.Served.{IsBalanced, Nears, AllUnderWay, calls_of}
use Rattle.mb_run.specs.Sights.{Sight}
use Rattle.mb_run.specs.declared.progress.Early.{Early}
use Rattle.mb_run.specs.declared.progress.Early.TheVariants as early
use Rattle.mb_run.specs.declared.progress.Next.{Next}
use Rattle.mb_run.specs.declared.progress.Next.TheVariants as next
use Rattle.mb_run.specs.declared.runner.At.{At}
use Rattle.mb_run.specs.declared.runner.At.TheVariants as at
use Rattle.mb_run.specs.declared.runner.Runner.{Runner}

-- ---- one caller

-- a call inside has pages of the declared callers, and no entry
abbrev pub MayLookAt : Sight → Runner → At → Type 0
MayLookAt sight runner (at.Inside ticket) = (ticket.caller < sight.config.callers) × HasTablesFor sight.config.callers runner.pages × (runner.answered ≡ false)
MayLookAt sight runner _ = Unit {0}

abbrev pub MayLook : Sight → Runner → Type 0
MayLook sight runner = MayLookAt sight runner runner.at

-- a call that is outside enters, and one that is inside may gather what it lacks
abbrev pub IsEarlyAt : Runner → Early → Type 0
IsEarlyAt runner early.Enter = runner.at ≡ at.Outside
IsEarlyAt runner (early.Gather ticket need) =
    (runner.at ≡ at.Inside ticket) × (has runner.pages need.first ≡ false) × (need.first < 262144) × (1 ≤ need.count) × (need.count ≤ 32)

-- what a call does next; want of memory is met by a call inside alone, and a call that is outside enters next
abbrev pub ComesNext : Runner → Next → Type 0
ComesNext runner (next.Early early) = IsEarlyAt runner early
ComesNext runner next.NoMemory = runner.answered ≡ false
ComesNext runner next.Late = runner.at ≢ at.Outside

-- steps of a caller's call, with which it was answered, or not
pub record MovesCall (calls : List JobCall) (test : Option (Crossing → Bool)) (old new : Sight) (before now : Runner) : Type 0 where
  pub nears : Nears calls test old new before now
  pub done : (now.done ≡ before.done) ⊎ (now.done ≡ before.done + 1)

abbrev pub Moved : List JobCall → Option (Crossing → Bool) → Sight → Sight → Runner → Runner → Bool → Type 0
Moved calls test old new before now true = MovesCall calls test old new before now
Moved calls test old new before now false = Unit {0}

-- ---- all callers

-- how many calls of a caller were answered
abbrev pub done_by : Option Runner → ℕ
done_by None = 0
done_by (Some runner) = runner.done

abbrev pub done_at : List Runner → ℕ → ℕ
done_at runners caller = done_by (slice_get runners caller)

-- of no caller fewer calls were answered
abbrev pub AnswersGrow : List Runner → List Runner → Type 0
AnswersGrow old new = (caller : ℕ) → done_at old caller ≤ done_at new caller

-- a character of an order asks for a checkpoint: `=`
abbrev pub asks : ℕ → Bool
asks character = nat_eq character 61

-- how many checkpoints an order asks for; none is asked for without one
abbrev pub asked_in : List ℕ → ℕ
asked_in order = count_by asks order

abbrev pub asked_by : Option (List ℕ) → ℕ
asked_by None = 0
asked_by (Some order) = asked_in order

-- how many checkpoints the trace has
abbrev pub seals_in : Sight → ℕ
seals_in sight = count_by is_seal sight.trail

-- fault records only came; while none does a volume that runs goes on, and at least so many checkpoints are taken
pub record TakesAsked (asked : ℕ) (old new : Sight) : Type 0 where
  pub records : length old.records ≤ length new.records
  pub runs : length new.records ≡ length old.records → old.stage ≡ stage.Running → new.stage ≡ stage.Running
  pub takes : length new.records ≡ length old.records → old.stage ≡ stage.Running → seals_in old + asked ≤ seals_in new

-- history and trace only grew
pub record Lengthens (old new : Sight) : Type 0 where
  pub entries : List Entry
  pub history : new.history ≡ old.history ++ entries
  pub trail : TrailGoesOn old.trail new.trail

-- a job is still under way, later on; so many checkpoints were asked for
pub record IsWhole (calls : List JobCall) (test : Option (Crossing → Bool)) (asked : ℕ) (old new : Sight) (before now : List Runner) : Type 0 where
  pub underway : AllUnderWay calls test new now
  pub grows : AnswersGrow before now
  pub balanced : IsBalanced old → IsBalanced new
  pub config : new.config ≡ old.config
  pub firsts : KeepsFirsts old new
  pub later : Lengthens old new
  -- no more were taken where none was due, and none was left out behind a sync(2); without a fault those that were asked for were
  pub seals : IsTimely asked old new
  pub takes : TakesAsked asked old new

-- nobody's call did anything: calls, entries and records stay, and while the volume runs, so does what calls gathered
pub record IsQuiet (old new : Sight) : Type 0 where
  pub config : new.config ≡ old.config
  pub records : new.records ≡ old.records
  pub incarnation : new.incarnation ≡ old.incarnation
  pub seats : (caller : ℕ) → new.seats caller ≡ old.seats caller
  pub counts : SameCalls old new
  pub floor : (new.floor ≡ None) ⊎ (new.floor ≡ old.floor)
  pub trail : TrailGoesOn old.trail new.trail
  pub runs : old.stage ≡ stage.Running → new.stage ≡ stage.Running
  pub copies : old.stage ≡ stage.Running → (caller : ℕ) → new.copies caller ≡ old.copies caller
  pub stales : old.stage ≡ stage.Running → (caller : ℕ) → new.stales caller ≡ old.stales caller

-- a caller has a call in flight without an entry
pub record HasCallOpen (sight : Sight) (runners : List Runner) (caller : ℕ) : Type 0 where
  pub runner : Runner
  pub here : slice_get runners caller ≡ Some runner
  pub more : runner.done < (sight.seats caller).begun
  pub lacks : runner.answered ≡ false

-- the caller at a place has that letter
pub record HasLetter (callers : List Caller) (letter place : ℕ) : Type 0 where
  pub caller : Caller
  pub here : slice_get callers place ≡ Some caller
  pub is : caller.letter ≡ letter

-- one call more of a caller was answered, or its list is done
abbrev pub AnswersOneMore : List JobCall → ℕ → List Runner → List Runner → Type 0
AnswersOneMore calls caller old new = (done_at old caller + 1 ≤ done_at new caller) ⊎ (length (calls_of calls caller) ≤ done_at new caller)

-- so many calls of a caller were answered, or one more, or its list is done
abbrev pub ReachesCount : List JobCall → ℕ → ℕ → List Runner → List Runner → Type 0
ReachesCount calls caller count old new = (count ≤ done_at new caller) ⊎ AnswersOneMore calls caller old new

-- of each caller at least the calls among the first so many of the job were answered
abbrev pub AreRunOut : List JobCall → List Runner → ℕ → Type 0
AreRunOut calls runners index = (caller : ℕ) → caller < length runners → length (calls_of (take index calls) caller) ≤ done_at runners caller

-- how many calls each caller has among them
abbrev pub AreCounted : List JobCall → List ℕ → ℕ → Type 0
AreCounted calls passed index = (caller : ℕ) → caller < 8 → slice_index passed caller ≡ length (calls_of (take index calls) caller)

-- a checkpoint was taken, or the volume does not run
abbrev pub IsSealedNow : Sight → Sight → Type 0
IsSealedNow old new = ((old.stage ≡ stage.Running) × (new ≡ sealed old new)) ⊎ ((old.stage ≢ stage.Running) × (new ≡ old))
