-- What a run of a job over a disk gives: the promise on its history, its fault records, and the image that it leaves.
use Rattle.std.specs.Prelude.{List, [], false, ℕ, ◌+◌, ◌-◌, ◌^◌, ◌<◌, ◌≤◌, ◌≡◌, Option, Some, None, length, map, count_by}
use Rattle.std.specs.List.{AllByRecursion}
use Rattle.mb_core_spec.specs.Callers.{EachCaller}
use Rattle.mb_core_spec.specs.Faults.{FewDevices, is_device}
use Rattle.mb_core_spec.specs.Numbers.{AreInPlace}
use Rattle.mb_core_spec.specs.Right.{Right}
use Rattle.mb_core_spec.specs.State.{CoreState}
use Rattle.mb_core_spec.specs.declared.config.Config.{Config}
use Rattle.mb_core_spec.specs.declared.stages.Stage.TheVariants as stage
use Rattle.mb_core_spec.specs.declared.steps.Step.{Step}
use Rattle.mb_jobs.specs.declared.jobs.Caller.{Caller}
use Rattle.mb_jobs.specs.declared.jobs.Job.{Job}
use Rattle.mb_kinds.specs.Image.{Image}
use Rattle.mb_kinds.specs.Own.{own}
use Rattle.mb_kinds.specs.declared.entries.Entry.{Entry}
use Rattle.mb_kinds.specs.declared.faults.FaultRecord.{FaultRecord}
use Rattle.mb_run.specs.Drives.{HasEachMoment, IsLinedUp}
use Rattle.mb_run.specs.Letters.{letters_of}
use Rattle.mb_plan.specs.Fires.{fires}
use Rattle.mb_plan.specs.declared.rules.Rule.{Rule}
use Rattle.mb_run.specs.Orders.{asked_in}
use Rattle.mb_run.specs.Runs.{EntersFirst, FirstsRise, AnswersFailed, HasRecords, HasTakenFaults, TakesWhereItEntered, is_seal}
use Rattle.mb_run.specs.Seals.{AreAskedFor, AreInTime, late, omitted}
use Rattle.mb_run.specs.Stales.{stales_beyond}
use Rattle.mb_run.specs.Served.{calls_in, calls_of}
use Rattle.mb_tree.specs.History.{Legal, after_first}
use Rattle.mb_tree.specs.Opening.{opening}
use Rattle.mb_tree.specs.Views.{Kept}
use Rattle.mb_tree.specs.Volume.{IsVolume}
use Rattle.mb_tree.specs.declared.machines.Machine.{Machine}
use Rattle.mb_tree.specs.declared.trees.Tree.{Tree}

-- ---- what is run

-- a core is begun with the job's callers, with the moment before the first one, and with when checkpoints are taken and how
-- many faults are survived
pub record IsConfigOf (job : Job) (config : Config) : Type 0 where
  pub callers : config.callers ≡ map (λ (caller : Caller). caller.cred) job.callers
  pub start : config.start ≡ job.start
  pub threshold : config.threshold ≡ job.threshold
  pub limit : config.limit ≡ job.limit

-- the reference model as it begins: the volume's tree, opened for the job's callers
abbrev pub opened : Job → Tree → Machine
opened job tree = opening tree (map (λ (caller : Caller). caller.cred) job.callers)

-- what holds of each tree of which the disk's image is a volume
abbrev pub OverVolume : {D : Type 0} → (D → Option Image) → D → (Image → Tree → Type 0) → Type 0
OverVolume told disk Fact = (image : Image) (tree : Tree) → told disk ≡ Some image → IsVolume image tree → Fact image tree

-- ---- the history

-- one legal history of the volume's tree
abbrev pub HasHistory : {D : Type 0} → (D → Option Image) → Job → D → List Entry → Type 0
HasHistory told job disk history = OverVolume told disk (λ image tree. Legal (opened job tree) job.start history)

-- each caller's calls stand once, in its order
abbrev pub HasOwnCalls : Job → List Entry → Type 0
HasOwnCalls job history = (caller : ℕ) → caller < length job.callers → calls_in history caller ≡ calls_of job.calls caller

-- by an order the moments of the callers' first calls rise as the callers' letters first stand in it
abbrev pub RiseAsOrdered : Option (List ℕ) → List Caller → List Entry → Type 0
RiseAsOrdered None callers history = Unit {0}
RiseAsOrdered (Some order) callers history = FirstsRise order (letters_of callers) history

-- the disk ended no call
abbrev pub HasNoDevice : List Entry → Type 0
HasNoDevice history = AllByRecursion (λ (entry : Entry). is_device entry.reply ≡ false) history

-- by an order, where no fault is planned and the disk ended no call, the trace begins, but for its checkpoints, with one `Entered`
-- for each caller that has a call and whose letter stands in the order's longest prefix in which no caller's letter, small or
-- capital, stands more than twice and no small letter stands after its capital (`calm_prefix`): in the order of their first
-- letters, each with the ordinal 1
abbrev pub EntersAsOrdered : Option (List ℕ) → Job → List Entry → List Step → Type 0
EntersAsOrdered None job history trail = Unit {0}
EntersAsOrdered (Some order) job history trail = job.plan ≡ [] → HasNoDevice history → EntersFirst job.calls (letters_of job.callers) order trail

-- each caller's entries have the ordinals from 1 on, each in its place
abbrev pub HasOrdinals : Job → List Entry → Type 0
HasOrdinals job history = (caller : ℕ) → caller < length job.callers → AreInPlace (own history caller)

-- a job that was run over a disk, however its callers were run: the core began over it for the job; its history is a legal one,
-- in which each caller's calls stand once, in its order, with the ordinals from 1 on, each at one of the moments after the start;
-- its fault records are of faults of the plan; the disk ended at most as many calls as it had faults; and checkpoints were taken in
-- time: since the last one no sync(2) was done and fewer operations than the threshold are logged, also where the volume failed.
-- Where so many checkpoints were asked for, no more were taken where none was due, but for the one that ends the run, and right
-- behind each sync(2) that was logged one was taken; and once the failed volume answered, every later entry has its answer
pub record IsRunOf {F D : Type 0} (told : D → Option Image) (faults : D → ℕ) (asked : ℕ) (job : Job) (disk : D) (core : CoreState F D) : Type 0 where
  pub right : Right told faults core
  pub first : told core.first ≡ told disk
  pub config : IsConfigOf job core.config
  pub legal : HasHistory told job disk core.journal.history
  pub own_calls : HasOwnCalls job core.journal.history
  pub ordinals : HasOrdinals job core.journal.history
  pub moments : HasEachMoment job.start core.journal.history
  pub records : HasRecords job.plan core.journal.history core.journal.records
  pub failures : AllByRecursion (λ (entry : Entry). AnswersFailed job.limit core.journal.records entry.reply) core.journal.history
  pub devices : FewDevices (faults disk) (faults core.cache.disk) core.journal.history
  pub seals : AreInTime job.threshold (length core.journal.oplog) core.journal.sealed_at core.journal.history
  pub checkpoints : AreAskedFor job.threshold asked core.journal.history core.journal.trail
  pub prompt : omitted core.journal.history core.journal.trail ≡ 0
  pub last : late core.journal.history ≡ 0

-- the faults of the plan are taken: in list order none was passed over at a fault point to which a call came, as far as its fault
-- records tell how often it entered, gathered and finished, and a call with a plain reply met one of its own at most; by an order
-- none was where a call entered
abbrev pub TakesPlanned : Option (List ℕ) → List Rule → List Entry → List FaultRecord → Type 0
TakesPlanned None plan history records = HasTakenFaults (Some (fires plan)) history records
TakesPlanned (Some order) plan history records = AllByRecursion (TakesWhereItEntered (Some (fires plan)) records) history

-- by an order, where no fault came, at least as many checkpoints were taken as the order has `=`
abbrev pub SealsAsOrdered : Option (List ℕ) → List FaultRecord → List Step → Type 0
SealsAsOrdered None records trail = Unit {0}
SealsAsOrdered (Some order) records trail = records ≡ [] → asked_in order ≤ count_by is_seal trail

-- and of a run to its end one more, which ends it
abbrev pub SealsBesideEnd : Option (List ℕ) → List FaultRecord → List Step → Type 0
SealsBesideEnd None records trail = Unit {0}
SealsBesideEnd (Some order) records trail = records ≡ [] → asked_in order < count_by is_seal trail

-- where one thread ran the job: without an order its calls stand in the job's order, entry by entry and moment by moment, and
-- the faults of its plan were taken; by an order the first calls begin as the callers' letters first stand in it, the faults of its
-- plan were taken where calls entered, and without faults the trace begins with these calls, and checkpoints were taken where it
-- asks for them. No call was told more than four times,
-- since it last entered, that a copy of its is stale
pub record KeepsOrder (job : Job) (history : List Entry) (records : List FaultRecord) (trail : List Step) : Type 0 where
  pub lined : IsLinedUp job.order job.calls job.start history
  pub firsts : RiseAsOrdered job.order job.callers history
  pub enters : EntersAsOrdered job.order job history trail
  pub taken : TakesPlanned job.order job.plan history records
  pub asked : SealsAsOrdered job.order records trail
  pub patient : (caller : ℕ) → stales_beyond caller trail ≡ 0

-- ---- the end of a run

-- nobody's call is in flight, and no page waits
pub record IsAtRest {F D : Type 0} (core : CoreState F D) : Type 0 where
  pub free : EachCaller (λ caller mine. mine.flight ≡ None) core.callers
  pub current : core.cache.current ≡ []
  pub sealed : core.cache.sealed ≡ []

-- the volume runs, a checkpoint was taken of all entries, and at most as many faults struck as are survived
pub record IsDone {F D : Type 0} (job : Job) (core : CoreState F D) : Type 0 where
  pub rest : IsAtRest core
  pub runs : core.stage ≡ stage.Running
  pub few : length core.journal.records ≤ job.limit
  pub sealed_at : core.journal.sealed_at ≡ length core.journal.history

-- the volume failed: one fault more struck than are survived
pub record HasGivenUp {F D : Type 0} (job : Job) (core : CoreState F D) : Type 0 where
  pub rest : IsAtRest core
  pub failed : core.stage ≡ stage.Failed
  pub many : length core.journal.records ≡ job.limit + 1

-- an image is a volume of the tree after the first entries of a history, all else kept
pub record IsLeft (job : Job) (history : List Entry) (count : ℕ) (first last : Image) (tree : Tree) : Type 0 where
  pub within : count ≤ length history
  pub volume : IsVolume last (after_first (opened job tree) history count).tree
  pub kept : Kept tree first (after_first (opened job tree) history count).tree last

-- the disk has an image: a volume of the tree after the entries up to the last checkpoint
abbrev pub LeavesImage : {F D : Type 0} → (D → Option Image) → Job → D → CoreState F D → Type 0
LeavesImage told job disk core = OverVolume told disk (λ image tree.
    (left : Image) × (told core.cache.disk ≡ Some left) × IsLeft job core.journal.history core.journal.sealed_at image left tree)

-- where the disk failed in the end of a run, fewer calls than its faults were ended by the disk
abbrev pub FewerDevices : ℕ → ℕ → List Entry → Type 0
FewerDevices before now history = now < 2 ^ 64 - 1 → count_by (λ (entry : Entry). is_device entry.reply) history + before < now
