-- That a run cannot end for no reason.
use Rattle.std.specs.Prelude.{List, ℕ, ◌≡◌, ◌≢◌, ◌≤◌, ◌⊎◌, Bool, sum_by, take, Option, Some, Ok}
use Rattle.mb_commands.specs.Words.{command_of}
use Rattle.mb_commands.specs.declared.commands.Command.TheVariants.{Check, Mkfs, Run, Soak}
use Rattle.mb_jobs.specs.Job.{job_in}
use Rattle.mb_jobs.specs.declared.jobs.Job.{Job}
use Rattle.mb_kinds.specs.Image.{Image}
use Rattle.mb_mkfs.specs.Sizes.{AreSizes}
use Rattle.mb_plan.specs.declared.rules.Rule.{Rule}
use Rattle.mb_program.specs.Outcomes.{HasEnded}
use Rattle.mb_program.specs.declared.finish.Held.{Held}
use Rattle.mb_tree.specs.Volume.{IsVolume}
use Rattle.mb_tree.specs.declared.trees.Tree.{Tree}

-- a `run`, by threads or not, a job and a volume, without a fault of the disk, the output or the input
pub record IsSmoothRun {D : Type 0} (told : D → Option Image) (words : List (List ℕ)) (bytes : List ℕ) (disk : D) (job : Job) (status : ℕ) : Type 0 where
  pub threads : Bool
  pub command : command_of words ≡ Some (Run threads)
  pub read : job_in (take 4194305 bytes) ≡ Ok job
  pub image : Image
  pub tree : Tree
  pub tells : told disk ≡ Some image
  pub volume : IsVolume image tree
  pub disk_works : status ≢ 5
  pub output_works : status ≢ 7
  pub input_works : status ≢ 8

-- the job is run to its end, or more faults struck than the volume survives, but for want of memory
abbrev pub RunsComplete : {D : Type 0} → (D → Option Image) → (D → ℕ) → Type 0
RunsComplete {D} told faults = (words : List (List ℕ)) (bytes : List ℕ) (disk : D) (job : Job) (held : Held D) (now old new : Option (List ℕ)) (status : ℕ)
    → HasEnded told faults words (Some bytes) now disk held old new status → IsSmoothRun told words bytes disk job status
    → (status ≡ 0) ⊎ (status ≡ 4) ⊎ (status ≡ 6)

-- where the rules of the plan have at most as many times together as faults are survived, it is run to its end
abbrev pub SurvivorsComplete : {D : Type 0} → (D → Option Image) → (D → ℕ) → Type 0
SurvivorsComplete {D} told faults = (words : List (List ℕ)) (bytes : List ℕ) (disk : D) (job : Job) (held : Held D) (now old new : Option (List ℕ)) (status : ℕ)
    → HasEnded told faults words (Some bytes) now disk held old new status → IsSmoothRun told words bytes disk job status
    → sum_by (λ (rule : Rule). rule.times) job.plan ≤ job.limit → (status ≡ 0) ⊎ (status ≡ 6)

-- a `mkfs` with the sizes of a volume, without a fault of the disk or the output: the volume is made, but for want of memory
abbrev pub MakesComplete : {D : Type 0} → (D → Option Image) → (D → ℕ) → Type 0
MakesComplete {D} told faults = (words : List (List ℕ)) (left now : Option (List ℕ)) (disk : D) (held : Held D) (old new : Option (List ℕ)) (status blocks inodes : ℕ)
    → HasEnded told faults words left now disk held old new status → command_of words ≡ Some (Mkfs blocks inodes) → AreSizes blocks inodes
    → status ≢ 5 → status ≢ 7 → (status ≡ 0) ⊎ (status ≡ 6)

-- a `check` of a volume, without a fault of the disk or the output: it is told as one, but for want of memory
abbrev pub CheckCompletes : {D : Type 0} → (D → Option Image) → (D → ℕ) → Type 0
CheckCompletes {D} told faults = (words : List (List ℕ)) (left now : Option (List ℕ)) (disk : D) (image : Image) (tree : Tree) (held : Held D) (old new : Option (List ℕ)) (status : ℕ)
    → HasEnded told faults words left now disk held old new status → command_of words ≡ Some Check → told disk ≡ Some image → IsVolume image tree
    → status ≢ 5 → status ≢ 7 → (status ≡ 0) ⊎ (status ≡ 6)

-- a `soak` of a volume, without a fault of the disk or the output: its job is run to its end, but for want of memory
abbrev pub SoaksComplete : {D : Type 0} → (D → Option Image) → (D → ℕ) → Type 0
SoaksComplete {D} told faults = (words : List (List ℕ)) (left now : Option (List ℕ)) (disk : D) (image : Image) (tree : Tree) (held : Held D) (old new : Option (List ℕ)) (status number calls faulty : ℕ)
    → HasEnded told faults words left now disk held old new status → command_of words ≡ Some (Soak number calls faulty) → told disk ≡ Some image → IsVolume image tree
    → status ≢ 5 → status ≢ 7 → (status ≡ 0) ⊎ (status ≡ 6)
