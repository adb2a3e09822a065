-- How the program ends: the order of the causes, and for each of them its status and its text.
use Rattle.std.specs.Prelude.{List, ◌++◌, ℕ, ◌≡◌, ◌≢◌, ◌≤◌, ◌⊎◌, codes, Bool, true, false, length, Option, Some, None, Result, Ok, Err, IfSome}
use Rattle.std.specs.Io.KnownBytes.{Appends, Consumes}
use Rattle.mb_edge.specs.Causes.{Rose}
use Rattle.mb_edge.specs.Transfers.{AreFirst, TakesFront}
use Rattle.mb_check.specs.Whole.{IsSoundAs, IsUnsound}
use Rattle.mb_check.specs.declared.scans.OpenFault.{OpenFault}
use Rattle.mb_check.specs.declared.scans.OpenFault.TheVariants as faults
use Rattle.mb_check.specs.declared.scans.Scan.{Scan}
use Rattle.mb_commands.specs.Lines.{refused_line, sound_line}
use Rattle.mb_commands.specs.Makes.{HasMade, HasVolume}
use Rattle.mb_commands.specs.Words.{command_of}
use Rattle.mb_commands.specs.declared.commands.Command.{Command}
use Rattle.mb_commands.specs.declared.commands.Command.TheVariants.{Check, Mkfs, Run, Soak}
use Rattle.mb_core_events.specs.Beginning.{TellsVolume}
use Rattle.mb_core_spec.specs.State.{CoreState}
use Rattle.mb_fsops.specs.declared.v7.V7.{V7}
use Rattle.mb_gen.specs.Generator.{generated}
use Rattle.mb_headline.specs.Headline.{FewerDevices, IsDone, HasGivenUp, IsRunOf, KeepsOrder, LeavesImage, SealsBesideEnd}
use Rattle.mb_headline.specs.Laws.{IsBegunFor}
use Rattle.mb_jobs.specs.Job.{job_in}
use Rattle.mb_jobs.specs.declared.jobs.Job.{Job}
use Rattle.mb_jobs.specs.declared.jobs.JobFault.{JobFault}
use Rattle.mb_kinds.specs.Image.{Image}
use Rattle.mb_mkfs.specs.Made.{KeepsFrom}
use Rattle.mb_mkfs.specs.Sizes.{AreSizes}
use Rattle.mb_plan.specs.Fires.{fires}
use Rattle.mb_print.specs.Causes.{refused_text}
use Rattle.mb_print.specs.Transcript.{end_text, failed_text, soak_text, transcript_text}
use Rattle.mb_run.specs.CoreSight.{sight_of}
use Rattle.mb_run.specs.Drives.{IsDrivenApart}
use Rattle.mb_run.specs.Orders.{asked_by}
use Rattle.mb_run.specs.Settling.{IsCutShort}
use Rattle.mb_program.specs.Held.{HoldsCore, HoldsDisk, IsGivenBack, IsCoreOver, IsUntouched, KeepsImage, held_disk}
use Rattle.mb_program.specs.declared.finish.Held.{Held}
use Rattle.mb_program.specs.declared.manners.Manner.{Manner}
use Rattle.mb_program.specs.declared.manners.Manner.TheVariants as manners
use Rattle.mb_program.specs.declared.outcomes.Outcome.{Outcome}
use Rattle.mb_program.specs.declared.outcomes.Outcome.TheVariants.{WordsRefused, InputFault, JobRefused, DiskFault, OutOfMemory, Made, Checked, Unsound, Unsettled, GivenUp, Ran}

-- the program's status
abbrev pub status_of : Outcome → ℕ
status_of WordsRefused = 1
status_of InputFault = 8
status_of (JobRefused line) = 2
status_of DiskFault = 5
status_of OutOfMemory = 6
status_of (Made line) = 0
status_of (Checked line) = 0
status_of (Unsound line) = 3
status_of (Unsettled text) = 5
status_of (GivenUp text) = 4
status_of (Ran text) = 0

-- what it prints
abbrev pub text_of : Outcome → List ℕ
text_of WordsRefused = codes "words refused\n"
text_of InputFault = codes "input fault\n"
text_of (JobRefused line) = line
text_of DiskFault = codes "disk fault\n"
text_of OutOfMemory = codes "no memory\n"
text_of (Made line) = line
text_of (Checked line) = line
text_of (Unsound line) = line
text_of (Unsettled text) = text
text_of (GivenUp text) = text
text_of (Ran text) = text

-- ---- a run

-- a transcript and its last line: the numbers of entries, of fault records, and of entries at the last checkpoint
abbrev pub ended_text : {D : Type 0} → (ℕ → ℕ → ℕ → List ℕ) → Job → CoreState V7 D → List ℕ
ended_text line job core = transcript_text job core.journal.history ++ line (length core.journal.history) (length core.journal.records) core.journal.sealed_at

-- how a run is told: line by line, with that last line, or a `soak` in one line
abbrev pub told_text : {D : Type 0} → Manner → (ℕ → ℕ → ℕ → List ℕ) → Job → CoreState V7 D → List ℕ
told_text manners.Alone line job core = ended_text line job core
told_text manners.Threads line job core = ended_text line job core
told_text manners.Soak line job core = soak_text core.journal.history (length core.journal.records) core.journal.sealed_at

-- and where the disk failed in the end of the run: the line of the fault, behind the transcript if there is one
abbrev pub unsettled_text : {D : Type 0} → Manner → Job → CoreState V7 D → List ℕ
unsettled_text manners.Alone job core = transcript_text job core.journal.history ++ codes "disk fault\n"
unsettled_text manners.Threads job core = transcript_text job core.journal.history ++ codes "disk fault\n"
unsettled_text manners.Soak job core = codes "disk fault\n"

-- where one thread runs the job, the history keeps the job's order, in list order the plan's faults were taken, and by an order
-- without faults the trace begins with the callers' first calls
abbrev pub KeepsOrderIfAlone : {D : Type 0} → Manner → Job → CoreState V7 D → Type 0
KeepsOrderIfAlone manners.Alone job core = KeepsOrder job core.journal.history core.journal.records core.journal.trail
KeepsOrderIfAlone manners.Threads job core = Unit {0}
KeepsOrderIfAlone manners.Soak job core = KeepsOrder job core.journal.history core.journal.records core.journal.trail

-- and where it ran it to its end, the checkpoint that ends the run is none of those that an order asks for
abbrev pub ClosesIfAlone : {D : Type 0} → Manner → Job → CoreState V7 D → Type 0
ClosesIfAlone manners.Alone job core = SealsBesideEnd job.order core.journal.records core.journal.trail
ClosesIfAlone manners.Threads job core = Unit {0}
ClosesIfAlone manners.Soak job core = SealsBesideEnd job.order core.journal.records core.journal.trail

-- how many checkpoints a job asks for: as many as its order does, where one thread runs it, and none without an order or with threads
abbrev pub asked_for : Manner → Job → ℕ
asked_for manners.Alone job = asked_by job.order
asked_for manners.Threads job = 0
asked_for manners.Soak job = asked_by job.order

-- a job that was run over a disk to its end, in whatever manner: the volume runs, all is checkpointed, and the image left is that of the history's tree
pub record IsRunToEnd {D : Type 0} (told : D → Option Image) (faults : D → ℕ) (manner : Manner) (job : Job) (disk : D) (text : List ℕ) (core : CoreState V7 D) : Type 0 where
  pub run : IsRunOf told faults (asked_for manner job) job disk core
  pub order : KeepsOrderIfAlone manner job core
  pub closes : ClosesIfAlone manner job core
  pub done : IsDone job core
  pub left : LeavesImage told job disk core
  pub printed : text ≡ told_text manner end_text job core

-- a job with more faults than the volume survives: the image left is that of the tree at the last checkpoint
pub record IsRunToFailure {D : Type 0} (told : D → Option Image) (faults : D → ℕ) (manner : Manner) (job : Job) (disk : D) (text : List ℕ) (core : CoreState V7 D) : Type 0 where
  pub run : IsRunOf told faults (asked_for manner job) job disk core
  pub order : KeepsOrderIfAlone manner job core
  pub given_up : HasGivenUp job core
  pub left : LeavesImage told job disk core
  pub printed : text ≡ told_text manner failed_text job core

-- a job that was run, where the disk failed in the end of the run: fewer calls than its faults were ended by the disk, and a recovery
-- is in progress or pages wait to be written back
pub record IsRunShort {D : Type 0} (told : D → Option Image) (faults : D → ℕ) (manner : Manner) (job : Job) (disk : D) (text : List ℕ) (core : CoreState V7 D) : Type 0 where
  pub run : IsRunOf told faults (asked_for manner job) job disk core
  pub order : KeepsOrderIfAlone manner job core
  pub fewer : FewerDevices (faults disk) (faults core.cache.disk) core.journal.history
  pub rose : Rose (faults disk) (faults core.cache.disk)
  pub cut : IsCutShort (sight_of core)
  pub printed : text ≡ unsettled_text manner job core

-- what comes of a core that was begun over a disk for a job, by the core at the end; for want of memory it is still in order
abbrev pub ComesOfCore : {D : Type 0} → (D → Option Image) → (D → ℕ) → Manner → Job → D → CoreState V7 D → Outcome → Type 0
ComesOfCore told faults manner job disk core (Ran text) = IsRunToEnd told faults manner job disk text core
ComesOfCore told faults manner job disk core (GivenUp text) = IsRunToFailure told faults manner job disk text core
ComesOfCore told faults manner job disk core (Unsettled text) = IsRunShort told faults manner job disk text core
ComesOfCore told faults manner job disk core OutOfMemory = IsCoreOver told faults disk core
ComesOfCore told faults manner job disk core _ = ⊥

-- a core that a driver left of one that was begun over a disk for a job, at its end but for want of memory: each caller's calls
-- stand in its history, with the faults of the job's plan
pub record IsDrivenFor {D : Type 0} (told : D → Option Image) (faults : D → ℕ) (manner : Manner) (fs : V7) (job : Job) (disk : D) (driven : CoreState V7 D) : Type 0 where
  pub begun : CoreState V7 D
  pub over : IsBegunFor told faults fs job disk begun
  pub first : driven.first ≡ begun.first
  pub config : driven.config ≡ begun.config
  pub drives : IsDrivenApart job (asked_for manner job) (λ (caller : ℕ). Some (fires job.plan)) (sight_of begun) (sight_of driven)
  pub order : KeepsOrderIfAlone manner job driven

-- one thread runs the job
abbrev pub IsAlone : Manner → Type 0
IsAlone manners.Threads = ⊥
IsAlone _ = Unit {0}

-- the line has the first broken rule and its block, and the image is a volume of no tree
pub record IsUnsoundBy (told : Option Image) (line : List ℕ) : Type 0 where
  pub block : ℕ
  pub rule : ℕ
  pub says : line ≡ refused_line block rule
  pub unsound : IfSome told (λ image. IsUnsound image block rule)

-- the disk itself is held with the image that it told, and its count of faults rose
abbrev pub IsFaulty : {D : Type 0} → (D → Option Image) → (D → ℕ) → D → Held D → Type 0
IsFaulty told faults disk held = IsGivenBack told disk held × Rose (faults disk) (faults (held_disk held))

-- the image is a volume, and a core was begun over it and driven
abbrev pub IsDrivenTo : {D : Type 0} → (D → Option Image) → (D → ℕ) → Manner → Job → D → Held D → Outcome → Type 0
IsDrivenTo told faults manner job disk held outcome = TellsVolume (told disk) × HoldsCore held (λ core. ComesOfCore told faults manner job disk core outcome)

-- what comes of a job that is to be run: the image is refused, or the disk fails, or the job is run; for want of memory the image is
-- kept, or a core that keeps it
abbrev pub ComesOfJob : {D : Type 0} → (D → Option Image) → (D → ℕ) → Manner → Job → D → Held D → Outcome → Type 0
ComesOfJob told faults manner job disk held (Unsound line) = IsGivenBack told disk held × IsUnsoundBy (told disk) line
ComesOfJob told faults manner job disk held DiskFault = IsFaulty told faults disk held
ComesOfJob told faults manner job disk held OutOfMemory = KeepsImage told faults disk held
ComesOfJob told faults manner job disk held outcome = IsDrivenTo told faults manner job disk held outcome

-- a text of a run is this one, or there was no memory
abbrev pub SaysText : (List ℕ → Outcome) → List ℕ → Outcome → Type 0
SaysText made text outcome = (outcome ≡ made text) ⊎ (outcome ≡ OutOfMemory)

-- ---- the job

-- some bytes, which are the first 4,194,305 of the source where it tells them, or all; what stands behind them is left now
pub record OfBytes (left now : Option (List ℕ)) (Fact : List ℕ → Type 0) : Type 0 where
  pub bytes : List ℕ
  pub first : AreFirst left 4194305 bytes
  pub rest : Consumes left now bytes
  pub few : length bytes ≤ 4194305
  pub fact : Fact bytes

-- a line says why a job is refused
abbrev pub SaysWhy : Result Job JobFault → List ℕ → Type 0
SaysWhy (Ok job) line = ⊥
SaysWhy (Err fault) line = line ≡ refused_text fault

-- what comes of a job that is refused: the line that says why, or want of memory
abbrev pub IsRefusal : Result Job JobFault → Outcome → Type 0
IsRefusal found (JobRefused line) = SaysWhy found line
IsRefusal found OutOfMemory = Unit {0}
IsRefusal found _ = ⊥

-- why no job is run
abbrev pub IsJobRefused : Option (List ℕ) → Option (List ℕ) → Outcome → Type 0
IsJobRefused left now InputFault = Unit {0}
IsJobRefused left now OutOfMemory = Unit {0}
IsJobRefused left now (JobRefused line) = OfBytes left now (λ bytes. SaysWhy (job_in bytes) line)
IsJobRefused left now _ = ⊥

-- the job of some bytes, and what came of it
pub record IsJobRun {D : Type 0} (told : D → Option Image) (faults : D → ℕ) (manner : Manner) (bytes : List ℕ) (disk : D) (held : Held D) (outcome : Outcome) : Type 0 where
  pub job : Job
  pub read : job_in bytes ≡ Ok job
  pub over : ComesOfJob told faults manner job disk held outcome

-- what comes of a `run`, by the causes in their order: the input, the job, and then what comes of it; `left` are
-- the source's bytes before, and `now` those that it has left
abbrev pub ComesOfRunWords : {D : Type 0} → (D → Option Image) → (D → ℕ) → Manner → Option (List ℕ) → Option (List ℕ) → D → Held D → Outcome → Type 0
ComesOfRunWords told faults manner left now disk held WordsRefused = ⊥
ComesOfRunWords told faults manner left now disk held (Made line) = ⊥
ComesOfRunWords told faults manner left now disk held (Checked line) = ⊥
ComesOfRunWords told faults manner left now disk held InputFault = IsUntouched disk held
ComesOfRunWords told faults manner left now disk held OutOfMemory = KeepsImage told faults disk held
ComesOfRunWords told faults manner left now disk held (JobRefused line) = IsUntouched disk held × OfBytes left now (λ bytes. SaysWhy (job_in bytes) line)
ComesOfRunWords told faults manner left now disk held outcome = OfBytes left now (λ bytes. IsJobRun told faults manner bytes disk held outcome)

-- ---- the other commands

-- what comes of a `mkfs`: the words are refused where no volume has these sizes, and then the disk was not asked; where the disk
-- failed the blocks behind the volume's stay; for want of memory, which its line alone takes, the volume was made
abbrev pub ComesOfMkfs : {D : Type 0} → (D → Option Image) → (D → ℕ) → D → ℕ → ℕ → Held D → Outcome → Type 0
ComesOfMkfs told faults disk blocks inodes held (Made line) = HoldsDisk held (λ new. HasMade (told disk) (told new) blocks inodes line)
ComesOfMkfs told faults disk blocks inodes held WordsRefused = (AreSizes blocks inodes → ⊥) × IsUntouched disk held
ComesOfMkfs told faults disk blocks inodes held DiskFault =
    AreSizes blocks inodes × HoldsDisk held (λ new. Rose (faults disk) (faults new) × KeepsFrom (told disk) (told new) blocks)
ComesOfMkfs told faults disk blocks inodes held OutOfMemory = HoldsDisk held (λ new. HasVolume (told disk) (told new) blocks inodes)
ComesOfMkfs told faults disk blocks inodes held _ = ⊥

-- the line has the figures of the scan, and the image is a volume of the tree that its bytes show, with these figures
pub record IsSoundBy (told : Option Image) (line : List ℕ) : Type 0 where
  pub figures : Scan
  pub says : line ≡ sound_line figures.nodes figures.held figures.free
  pub sound : IfSome told (λ image. IsSoundAs image figures)

-- what comes of a `check`, which leaves the disk as it was
abbrev pub ComesOfCheck : {D : Type 0} → (D → Option Image) → (D → ℕ) → D → Held D → Outcome → Type 0
ComesOfCheck told faults disk held (Checked line) = IsGivenBack told disk held × IsSoundBy (told disk) line
ComesOfCheck told faults disk held (Unsound line) = IsGivenBack told disk held × IsUnsoundBy (told disk) line
ComesOfCheck told faults disk held DiskFault = IsFaulty told faults disk held
ComesOfCheck told faults disk held OutOfMemory = IsGivenBack told disk held
ComesOfCheck told faults disk held _ = ⊥

-- how a refusal of the image is told, or want of memory
abbrev pub IsRefusedAs : OpenFault → Outcome → Type 0
IsRefusedAs (faults.Unsound block rule) (Unsound line) = line ≡ refused_line block rule
IsRefusedAs faults.Device DiskFault = Unit {0}
IsRefusedAs fault OutOfMemory = Unit {0}
IsRefusedAs fault outcome = ⊥

-- how a scan is told, or want of memory
abbrev pub IsToldAs : Result Scan OpenFault → Outcome → Type 0
IsToldAs (Ok figures) (Checked line) = line ≡ sound_line figures.nodes figures.held figures.free
IsToldAs (Ok figures) OutOfMemory = Unit {0}
IsToldAs (Ok figures) outcome = ⊥
IsToldAs (Err fault) outcome = IsRefusedAs fault outcome

-- ---- the whole

-- whether a command reads a job
abbrev pub reads_job : Option Command → Bool
reads_job (Some (Run threads)) = true
reads_job _ = false

-- how the callers of a `run` are run
abbrev pub manner_of : Bool → Manner
manner_of true = manners.Threads
manner_of false = manners.Alone

-- what comes of a command, or of words that are none; a `soak` runs the job of its numbers
abbrev pub ComesOfCommand : {D : Type 0} → (D → Option Image) → (D → ℕ) → Option Command → Option (List ℕ) → Option (List ℕ) → D → Held D → Outcome → Type 0
ComesOfCommand told faults None left now disk held outcome = (outcome ≡ WordsRefused) × IsUntouched disk held
ComesOfCommand told faults (Some (Mkfs blocks inodes)) left now disk held outcome = ComesOfMkfs told faults disk blocks inodes held outcome
ComesOfCommand told faults (Some Check) left now disk held outcome = ComesOfCheck told faults disk held outcome
ComesOfCommand told faults (Some (Run threads)) left now disk held outcome = ComesOfRunWords told faults (manner_of threads) left now disk held outcome
ComesOfCommand told faults (Some (Soak number calls faulty)) left now disk held outcome = ComesOfJob told faults manners.Soak (generated number calls faulty) disk held outcome

-- how the program ends
abbrev pub IsOutcome : {D : Type 0} → (D → Option Image) → (D → ℕ) → List (List ℕ) → Option (List ℕ) → Option (List ℕ) → D → Held D → Outcome → Type 0
IsOutcome told faults words left now disk held outcome = ComesOfCommand told faults (command_of words) left now disk held outcome

-- the disk failed, at the opening, in a `mkfs` or a `check`, or in the end of a run
abbrev pub IsDiskFailure : Outcome → Type 0
IsDiskFailure DiskFault = Unit {0}
IsDiskFailure (Unsettled text) = Unit {0}
IsDiskFailure _ = ⊥

-- the program printed a front of its text and ended with its status, all of it but where the output failed; want of memory stays so
pub record IsPrinted (outcome : Outcome) (old new : Option (List ℕ)) (status : ℕ) : Type 0 where
  pub ended : (status ≡ status_of outcome) ⊎ ((status ≡ 7) × (outcome ≢ OutOfMemory))
  pub whole : status ≢ 7 → outcome ≢ OutOfMemory → Appends old new (text_of outcome)
  pub front : TakesFront old new (text_of outcome)

-- how the program ended, by the bytes that the source had left and has now, and those that the sink had taken and has now
pub record HasEnded {D : Type 0} (told : D → Option Image) (faults : D → ℕ) (words : List (List ℕ)) (left now : Option (List ℕ)) (disk : D) (held : Held D) (old new : Option (List ℕ)) (status : ℕ) : Type 0 where
  pub outcome : Outcome
  pub is : IsOutcome told faults words left now disk held outcome
  pub printed : IsPrinted outcome old new status
