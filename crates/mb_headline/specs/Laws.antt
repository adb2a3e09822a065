-- What a core that was begun for a job, driven and settled comes to.
use Rattle.std.specs.Prelude.{ℕ, ◌+◌, ◌≤◌, ◌≡◌, ◌⊎◌, Bool, Option, Some, Ok, List, length}
use Rattle.std.specs.List.{AllByRecursion}
use Rattle.mb_core_events.specs.Beginning.{IsBegunOver}
use Rattle.mb_core_spec.specs.Right.{Right}
use Rattle.mb_core_spec.specs.State.{CoreState}
use Rattle.mb_core_spec.specs.Bounds.{IsConfig}
use Rattle.mb_edge.specs.Causes.{Rose}
use Rattle.mb_edge.specs.declared.crossings.Crossing.{Crossing}
use Rattle.mb_core_spec.specs.declared.config.Config.{Config}
use Rattle.mb_core_spec.specs.declared.stages.Stage.TheVariants as stage
use Rattle.mb_gen.specs.Generator.{generated}
use Rattle.mb_jobs.specs.Job.{job_in}
use Rattle.mb_jobs.specs.declared.jobs.Job.{Job}
use Rattle.mb_kinds.specs.Image.{Image}
use Rattle.mb_plan.specs.Fires.{fires}
use Rattle.mb_plan.specs.declared.rules.Rule.{Rule}
use Rattle.mb_run.specs.CoreSight.{sight_of}
use Rattle.mb_run.specs.Drives.{IsBegun, IsDriven, IsDrivenApart, IsRunnable}
use Rattle.mb_run.specs.Letters.{AreLetters, letters_of}
use Rattle.mb_run.specs.Orders.{asked_by}
use Rattle.mb_run.specs.Seals.{AreInTime}
use Rattle.mb_run.specs.Settling.{IsSettled, KeepsHistory, SealsAtEnd}
use Rattle.mb_run.specs.Sights.{Sight}
use Rattle.mb_headline.specs.Headline.{FewerDevices, IsConfigOf, IsDone, HasGivenUp, IsRunOf, KeepsOrder, LeavesImage}

-- each caller may begin all its calls
abbrev pub MayBeginAll : Job → Config → Type 0
MayBeginAll job config = length job.calls ≤ config.most

-- a rule fires at the first crossings alone, of which a call may number more
abbrev pub IsEarly : Rule → Type 0
IsEarly rule = rule.skip + rule.times ≤ 100255

-- a job can be run, and a core can be begun for it: its callers have letters of their own, and its rules strike early
pub record IsFitJob (job : Job) : Type 0 where
  pub runnable : IsRunnable job
  pub config : (config : Config) → IsConfigOf job config → config.most ≡ length job.calls → IsConfig config
  pub letters : AreLetters (letters_of job.callers)
  pub early : AllByRecursion IsEarly job.plan

-- so is each job that a text writes
abbrev pub JobsAreFit : Type 0
JobsAreFit = (bytes : List ℕ) (job : Job) → job_in bytes ≡ Ok job → IsFitJob job

-- and each job that is generated from a number
abbrev pub SoaksAreFit : Type 0
SoaksAreFit = (number calls faults : ℕ) → 1 ≤ calls → calls ≤ 32768 → IsFitJob (generated number calls faults)

-- a core that begins over a disk with the config of a job is one that was begun for the job
abbrev pub BeginsForJob : (F D : Type 0) → (D → Option Image) → (D → ℕ) → Type 0
BeginsForJob F D told faults = (fs : F) (disk : D) (job : Job) (config : Config) (core : CoreState F D)
    → IsBegunOver told faults fs disk config core → Right told faults core → IsConfigOf job config → MayBeginAll job config → IsBegun job (sight_of core)

-- a core that was begun over a disk with what a job asks for
pub record IsBegunFor {F D : Type 0} (told : D → Option Image) (faults : D → ℕ) (fs : F) (job : Job) (disk : D) (core : CoreState F D) : Type 0 where
  pub config : Config
  pub over : IsBegunOver told faults fs disk config core
  pub config_is : IsConfigOf job config

-- what one thread leaves of a job is what any driver of its callers leaves, where as many checkpoints were asked for as the job's
-- order has; each caller's fault injector is that thread's
abbrev pub DrivesApart : Type 0
DrivesApart = (job : Job) (test : Option (Crossing → Bool)) (old new : Sight) → IsDriven job test old new → IsDrivenApart job (asked_by job.order) (λ (caller : ℕ). test) old new

-- what one thread leaves of such a job, over a core that was begun for it, keeps the job's order, and the faults of its plan were
-- taken
abbrev pub DrivesKeepOrder : (F D : Type 0) → (D → Option Image) → (D → ℕ) → Type 0
DrivesKeepOrder F D told faults = (fs : F) (job : Job) (disk : D) (begun driven : CoreState F D)
    → IsFitJob job → IsBegunFor told faults fs job disk begun → Right told faults driven → driven.config ≡ begun.config
    → IsDriven job (Some (fires job.plan)) (sight_of begun) (sight_of driven)
    → KeepsOrder job driven.journal.history driven.journal.records driven.journal.trail

-- a core that was begun runs
abbrev pub BegunRuns : (F D : Type 0) → (D → Option Image) → (D → ℕ) → Type 0
BegunRuns F D told faults = (fs : F) (job : Job) (disk : D) (core : CoreState F D) → IsBegunFor told faults fs job disk core → core.stage ≡ stage.Running

-- a core that was begun over a disk for a job, the core that a driver of its callers left, and the core at the end; so many
-- checkpoints were asked for
pub record IsPathOfRun {F D : Type 0} (fs : F) (told : D → Option Image) (faults : D → ℕ) (asked : ℕ) (job : Job) (disk : D) (begun driven ended : CoreState F D) : Type 0 where
  pub over : IsBegunFor told faults fs job disk begun
  pub drives : IsDrivenApart job asked (λ (caller : ℕ). Some (fires job.plan)) (sight_of begun) (sight_of driven)
  pub first : ended.first ≡ begun.first
  pub same_config : ended.config ≡ begun.config
  pub keeps : KeepsHistory (sight_of driven) (sight_of ended)
  pub seals : AreInTime ended.config.threshold (length ended.journal.oplog) ended.journal.sealed_at ended.journal.history
  pub ends : SealsAtEnd (sight_of driven) (sight_of ended)
  pub right : Right told faults ended

-- such a run is one of the job, where that is fit to be run
abbrev pub PathsAreRuns : (F D : Type 0) → (D → Option Image) → (D → ℕ) → Type 0
PathsAreRuns F D told faults = (fs : F) (asked : ℕ) (job : Job) (disk : D) (begun driven ended : CoreState F D)
    → IsFitJob job → IsPathOfRun fs told faults asked job disk begun driven ended → IsRunOf told faults asked job disk ended

-- where it was settled, it is done or the volume was given up, and the image is that of the last checkpoint
abbrev pub PathsEnd : (F D : Type 0) → (D → Option Image) → (D → ℕ) → Type 0
PathsEnd F D told faults = (fs : F) (asked : ℕ) (job : Job) (disk : D) (begun driven ended : CoreState F D)
    → IsPathOfRun fs told faults asked job disk begun driven ended → IsSettled (sight_of driven) (sight_of ended)
    → (IsDone job ended ⊎ HasGivenUp job ended) × LeavesImage told job disk ended

-- where the disk failed in the end of the run, fewer calls than its faults were ended by the disk
abbrev pub PathsFail : (F D : Type 0) → (D → Option Image) → (D → ℕ) → Type 0
PathsFail F D told faults = (fs : F) (asked : ℕ) (job : Job) (disk : D) (begun driven ended : CoreState F D)
    → IsPathOfRun fs told faults asked job disk begun driven ended → Right told faults driven → driven.first ≡ begun.first
    → Rose (faults driven.cache.disk) (faults ended.cache.disk)
    → FewerDevices (faults disk) (faults ended.cache.disk) ended.journal.history
