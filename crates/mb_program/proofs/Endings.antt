-- Which ends a run can have.
use Rattle.std.proofs.Common.{List, [], ◌∷◌, length, ℕ, ◌+◌, ◌≤◌, ◌≡◌, ◌≢◌, ◌⊎◌, inl, inr, take, ap, arith, sym, subst, ◌∙◌, Option, Some, Result, Ok, refl, IfSome}
use Rattle.mb_check.specs.Whole.{IsUnsound}
use Rattle.mb_commands.specs.declared.commands.Command.{Command}
use Rattle.mb_gen.specs.Generator.{generated}
use Rattle.mb_gen.specs.Laws.{GeneratedAreFit, StrikesFirst}
use Rattle.mb_jobs.specs.Job.{job_in}
use Rattle.mb_jobs.specs.declared.jobs.Job.{Job}
use Rattle.mb_jobs.specs.declared.jobs.JobFault.{JobFault}
use Rattle.mb_kinds.specs.Image.{Image}
use Rattle.mb_mkfs.specs.Sizes.{AreSizes}
use Rattle.mb_program.specs.Completes.{CheckCompletes, MakesComplete, RunsComplete, SoaksComplete, SurvivorsComplete}
use Rattle.mb_program.specs.Outcomes.{ComesOfCheck, ComesOfCommand, ComesOfJob, ComesOfMkfs, ComesOfRunWords, SaysWhy, manner_of, status_of}
use Rattle.mb_program.specs.declared.finish.Held.{Held}
use Rattle.mb_program.specs.declared.manners.Manner.{Manner}
use Rattle.mb_program.specs.declared.outcomes.Outcome.{Outcome}
use Rattle.mb_program.specs.declared.outcomes.Outcome.TheVariants.{WordsRefused, InputFault, JobRefused, DiskFault, OutOfMemory, Made, Checked, Unsound, Unsettled, GivenUp, Ran}
use Rattle.mb_tree.specs.Volume.{IsVolume}
use Rattle.mb_tree.specs.declared.trees.Tree.{Tree}
use Rattle.std.specs.Prelude.{sum_by}
use Rattle.std.specs.List.{AllByRecursion}
use Rattle.std.proofs.lemmas.List.Sums.{sum_by-cons}
use Rattle.mb_plan.specs.declared.rules.Rule.{Rule}
use Rattle.mb_plan_laws.specs.Firing.{FiresAtMost}
use Rattle.mb_program.specs.Held.{HoldsCore}
use Rattle.mb_program.specs.Outcomes.{IsRunToFailure}
use Rattle.mb_program.specs.declared.finish.Held.TheVariants as held
use Rattle.mb_program.specs.declared.manners.Manner.TheVariants as manners
use Rattle.mb_program.proofs.Runs.{nobody}
use Rattle.mb_program.proofs.Survivors.{few_records}
use Rattle.mb_program.proofs.Words.{IsInRange, command_range}

-- a status that is left for a job on a volume
abbrev pub IsLeftOver : ℕ → Type 0
IsLeftOver status = (status ≡ 0) ⊎ (status ≡ 4) ⊎ (status ≡ 6) ⊎ (status ≡ 5) ⊎ (status ≡ 8)

told_is : {told : Option Image} {image : Image} (Fact : Image → Type 0) → told ≡ Some image → IfSome told Fact → Fact image
told_is Fact is fact = subst (λ (t : Option Image). IfSome t Fact) is fact

left_over : {D : Type 0} (told : D → Option Image) (faults : D → ℕ) (manner : Manner) (bytes : List ℕ) (now : Option (List ℕ)) (disk : D) (image : Image) (tree : Tree) (job : Job) (held : Held D) (outcome : Outcome)
    → ComesOfRunWords told faults manner (Some bytes) now disk held outcome → job_in (take 4194305 bytes) ≡ Ok job → told disk ≡ Some image → IsVolume image tree → IsLeftOver (status_of outcome)
left_over told faults manner bytes now disk image tree job held WordsRefused is good tells volume = absurd is
left_over told faults manner bytes now disk image tree job held (Made line) is good tells volume = absurd is
left_over told faults manner bytes now disk image tree job held (Checked line) is good tells volume = absurd is
left_over told faults manner bytes now disk image tree job held InputFault is good tells volume = inr (inr (inr (inr refl)))
left_over told faults manner bytes now disk image tree job held (JobRefused line) is good tells volume =
    absurd (subst (λ (found : Result Job JobFault). SaysWhy found line) good (subst (λ (b : List ℕ). SaysWhy (job_in b) line) is.1.first is.1.fact))
left_over told faults manner bytes now disk image tree job held (Unsound line) is good tells volume =
    absurd ((told_is (λ image. IsUnsound image is.fact.over.1.block is.fact.over.1.rule) tells is.fact.over.1.unsound).no_volume tree volume)
left_over told faults manner bytes now disk image tree job held DiskFault is good tells volume = inr (inr (inr (inl refl)))
left_over told faults manner bytes now disk image tree job held OutOfMemory is good tells volume = inr (inr (inl refl))
left_over told faults manner bytes now disk image tree job held (Unsettled text) is good tells volume = inr (inr (inr (inl refl)))
left_over told faults manner bytes now disk image tree job held (GivenUp text) is good tells volume = inr (inl refl)
left_over told faults manner bytes now disk image tree job held (Ran text) is good tells volume = inl refl

settle : (status left : ℕ) → (status ≡ left) ⊎ (status ≡ 7) → IsLeftOver left → status ≢ 5 → status ≢ 7 → status ≢ 8 → (status ≡ 0) ⊎ (status ≡ 4) ⊎ (status ≡ 6)
settle status left ended is no_disk no_output no_input =
    elim ended [
      | inl same ↦ elim is [
        | inl done ↦ inl (same ∙ done)
        | inr rest ↦ elim rest [
          | inl failed ↦ inr (inl (same ∙ failed))
          | inr other ↦ elim other [
            | inl memory ↦ inr (inr (same ∙ memory))
            | inr faults ↦ elim faults [
              | inl disk ↦ absurd (no_disk (same ∙ disk))
              | inr input ↦ absurd (no_input (same ∙ input))
            ]
          ]
        ]
      ]
      | inr output ↦ absurd (no_output output)
    ]

ended_at : {outcome : Outcome} {status : ℕ} → (status ≡ status_of outcome) ⊎ ((status ≡ 7) × (outcome ≢ OutOfMemory)) → (status ≡ status_of outcome) ⊎ (status ≡ 7)
ended_at ended =
    elim ended [
      | inl same ↦ inl same
      | inr output ↦ inr output.0
    ]

pub runs_complete : {D : Type 0} (told : D → Option Image) (faults : D → ℕ) → RunsComplete told faults
runs_complete told faults words bytes disk job held now old new status ended smooth =
    settle status (status_of ended.outcome) (ended_at ended.printed.ended) (left_over told faults (manner_of smooth.threads) bytes now disk smooth.image smooth.tree job held ended.outcome
    (subst (λ (c : Option Command). ComesOfCommand told faults c (Some bytes) now disk held ended.outcome) smooth.command ended.is) smooth.read smooth.tells smooth.volume)
    smooth.disk_works smooth.output_works smooth.input_works

-- a volume that was given up recorded more faults than the plan has times
given_up_over : {D : Type 0} (told : D → Option Image) (faults : D → ℕ) (manner : Manner) (job : Job) (disk : D) (text : List ℕ) (given : Held D) → FiresAtMost
    → HoldsCore given (IsRunToFailure told faults manner job disk text) → job.limit + 1 ≤ sum_by (λ (rule : Rule). rule.times) job.plan
given_up_over told faults manner job disk text (held.Disk back) law is = absurd is
given_up_over told faults manner job disk text (held.Core core) law is =
    let few = few_records job.plan core.journal.records law is.run.records.planned is.run.records.distinct in
    omega (arith, few, is.given_up.many)

same_ok : (one other : Job) → ◌≡◌ {A = Result Job JobFault} (Ok one) (Ok other) → one ≡ other
same_ok one other same = cc

-- the job that was run is the one that the text writes
same_job : (bytes read : List ℕ) (one other : Job) → read ≡ take 4194305 bytes → job_in read ≡ Ok one → job_in (take 4194305 bytes) ≡ Ok other → one ≡ other
same_job bytes read one other first gives good = same_ok one other (sym gives ∙ ap job_in first ∙ good)

no_failure : {D : Type 0} (told : D → Option Image) (faults : D → ℕ) (manner : Manner) (bytes : List ℕ) (now : Option (List ℕ)) (disk : D) (job : Job) (given : Held D) (text : List ℕ) → FiresAtMost
    → ComesOfRunWords told faults manner (Some bytes) now disk given (GivenUp text) → job_in (take 4194305 bytes) ≡ Ok job → sum_by (λ (rule : Rule). rule.times) job.plan ≤ job.limit → ⊥
no_failure told faults manner bytes now disk job given text law is good survives =
    let over = given_up_over told faults manner is.fact.job disk text given law is.fact.over.1 in
    let same = same_job bytes is.bytes is.fact.job job is.first is.fact.read good in
    let short = subst (λ (j : Job). j.limit + 1 ≤ sum_by (λ (rule : Rule). rule.times) j.plan) same over in
    omega (arith, short, survives)

no_four : {D : Type 0} (told : D → Option Image) (faults : D → ℕ) (manner : Manner) (bytes : List ℕ) (now : Option (List ℕ)) (disk : D) (job : Job) (given : Held D) (outcome : Outcome) → FiresAtMost
    → ComesOfRunWords told faults manner (Some bytes) now disk given outcome → job_in (take 4194305 bytes) ≡ Ok job → sum_by (λ (rule : Rule). rule.times) job.plan ≤ job.limit → status_of outcome ≢ 4
no_four told faults manner bytes now disk job given (GivenUp text) law is good survives = λ four. no_failure told faults manner bytes now disk job given text law is good survives
no_four told faults manner bytes now disk job given WordsRefused law is good survives = λ four. omega (arith, four)
no_four told faults manner bytes now disk job given InputFault law is good survives = λ four. omega (arith, four)
no_four told faults manner bytes now disk job given (JobRefused line) law is good survives = λ four. omega (arith, four)
no_four told faults manner bytes now disk job given DiskFault law is good survives = λ four. omega (arith, four)
no_four told faults manner bytes now disk job given OutOfMemory law is good survives = λ four. omega (arith, four)
no_four told faults manner bytes now disk job given (Made line) law is good survives = λ four. omega (arith, four)
no_four told faults manner bytes now disk job given (Checked line) law is good survives = λ four. omega (arith, four)
no_four told faults manner bytes now disk job given (Unsound line) law is good survives = λ four. omega (arith, four)
no_four told faults manner bytes now disk job given (Unsettled text) law is good survives = λ four. omega (arith, four)
no_four told faults manner bytes now disk job given (Ran text) law is good survives = λ four. omega (arith, four)

-- a status that is neither the output's fault nor 4 for a reason
not_four : (status left : ℕ) → (status ≡ left) ⊎ (status ≡ 7) → left ≢ 4 → status ≢ 7 → (status ≡ 0) ⊎ (status ≡ 4) ⊎ (status ≡ 6) → (status ≡ 0) ⊎ (status ≡ 6)
not_four status left ended no_failure no_output ends =
    elim ends [
      | inl done ↦ inl done
      | inr rest ↦ elim rest [
        | inr memory ↦ inr memory
        | inl four ↦ elim ended [
          | inl same ↦ absurd (no_failure (sym same ∙ four))
          | inr output ↦ absurd (no_output output)
        ]
      ]
    ]

pub survivors_complete : {D : Type 0} (told : D → Option Image) (faults : D → ℕ) → FiresAtMost → SurvivorsComplete told faults
survivors_complete told faults law words bytes disk job given now old new status ended smooth survives =
    not_four status (status_of ended.outcome) (ended_at ended.printed.ended)
    (no_four told faults (manner_of smooth.threads) bytes now disk job given ended.outcome law
    (subst (λ (c : Option Command). ComesOfCommand told faults c (Some bytes) now disk given ended.outcome) smooth.command ended.is) smooth.read survives)
    smooth.output_works (runs_complete told faults words bytes disk job given now old new status ended smooth)

-- ---- mkfs

-- a status that is left for a `mkfs` with the sizes of a volume, and for a `check` of a volume
abbrev pub IsLeftOfDisk : ℕ → Type 0
IsLeftOfDisk status = (status ≡ 0) ⊎ (status ≡ 6) ⊎ (status ≡ 5)

left_of_mkfs : {D : Type 0} (told : D → Option Image) (faults : D → ℕ) (disk : D) (blocks inodes : ℕ) (held : Held D) (outcome : Outcome) → ComesOfMkfs told faults disk blocks inodes held outcome → AreSizes blocks inodes
    → IsLeftOfDisk (status_of outcome)
left_of_mkfs told faults disk blocks inodes held (Made line) is sizes = inl refl
left_of_mkfs told faults disk blocks inodes held OutOfMemory is sizes = inr (inl refl)
left_of_mkfs told faults disk blocks inodes held DiskFault is sizes = inr (inr refl)
left_of_mkfs told faults disk blocks inodes held WordsRefused is sizes = absurd (is.0 sizes)
left_of_mkfs told faults disk blocks inodes held _ is sizes = absurd is

settle_disk : (status left : ℕ) → (status ≡ left) ⊎ (status ≡ 7) → IsLeftOfDisk left → status ≢ 5 → status ≢ 7 → (status ≡ 0) ⊎ (status ≡ 6)
settle_disk status left ended is no_disk no_output =
    elim ended [
      | inl same ↦ elim is [
        | inl done ↦ inl (same ∙ done)
        | inr rest ↦ elim rest [
          | inl memory ↦ inr (same ∙ memory)
          | inr disk ↦ absurd (no_disk (same ∙ disk))
        ]
      ]
      | inr output ↦ absurd (no_output output)
    ]

pub makes_complete : {D : Type 0} (told : D → Option Image) (faults : D → ℕ) → MakesComplete told faults
makes_complete told faults words left now disk held old new status blocks inodes ended command sizes no_disk no_output =
    settle_disk status (status_of ended.outcome) (ended_at ended.printed.ended) (left_of_mkfs told faults disk blocks inodes held ended.outcome
    (subst (λ (c : Option Command). ComesOfCommand told faults c left now disk held ended.outcome) command ended.is) sizes) no_disk no_output

-- ---- check

left_of_check : {D : Type 0} (told : D → Option Image) (faults : D → ℕ) (disk : D) (image : Image) (tree : Tree) (held : Held D) (outcome : Outcome) → ComesOfCheck told faults disk held outcome → told disk ≡ Some image → IsVolume image tree
    → IsLeftOfDisk (status_of outcome)
left_of_check told faults disk image tree held (Checked line) is tells volume = inl refl
left_of_check told faults disk image tree held (Unsound line) is tells volume =
    absurd ((told_is (λ image. IsUnsound image is.1.block is.1.rule) tells is.1.unsound).no_volume tree volume)
left_of_check told faults disk image tree held OutOfMemory is tells volume = inr (inl refl)
left_of_check told faults disk image tree held DiskFault is tells volume = inr (inr refl)
left_of_check told faults disk image tree held _ is tells volume = absurd is

pub check_completes : {D : Type 0} (told : D → Option Image) (faults : D → ℕ) → CheckCompletes told faults
check_completes told faults words left now disk image tree held old new status ended command tells volume no_disk no_output =
    settle_disk status (status_of ended.outcome) (ended_at ended.printed.ended) (left_of_check told faults disk image tree held ended.outcome
    (subst (λ (c : Option Command). ComesOfCommand told faults c left now disk held ended.outcome) command ended.is) tells volume) no_disk no_output

-- ---- soak

-- rules that strike once each have as many times as there are of them
times_of : (rules : List Rule) → AllByRecursion StrikesFirst rules → sum_by (λ (rule : Rule). rule.times) rules ≡ length rules
times_of [] strikes = refl
times_of (rule ∷ rules) strikes =
    let rest = times_of rules strikes.1 in
    let once = strikes.0.once in
    omega (arith, sum_by-cons (λ (rule : Rule). rule.times) rule rules, rest, once)

left_of_soak : {D : Type 0} (told : D → Option Image) (faults : D → ℕ) (disk : D) (image : Image) (tree : Tree) (number calls faulty : ℕ) (held : Held D) (outcome : Outcome) → FiresAtMost → GeneratedAreFit
    → calls ≤ 32768 → faulty ≤ 255 → ComesOfJob told faults manners.Soak (generated number calls faulty) disk held outcome → told disk ≡ Some image → IsVolume image tree → IsLeftOfDisk (status_of outcome)
left_of_soak told faults disk image tree number calls faulty held (Ran text) law fits many few is tells volume = inl refl
left_of_soak told faults disk image tree number calls faulty held OutOfMemory law fits many few is tells volume = inr (inl refl)
left_of_soak told faults disk image tree number calls faulty held DiskFault law fits many few is tells volume = inr (inr refl)
left_of_soak told faults disk image tree number calls faulty held (Unsettled text) law fits many few is tells volume = inr (inr refl)
left_of_soak told faults disk image tree number calls faulty held (Unsound line) law fits many few is tells volume =
    absurd ((told_is (λ image. IsUnsound image is.1.block is.1.rule) tells is.1.unsound).no_volume tree volume)
left_of_soak told faults disk image tree number calls faulty held (GivenUp text) law fits many few is tells volume =
    let fit = fits number calls faulty many in
    let over = given_up_over told faults manners.Soak (generated number calls faulty) disk text held law is.1 in
    let times = times_of (generated number calls faulty).plan fit.strikes in
    let rules = fit.rules in
    let limit = fit.limit in absurd (omega (arith, over, times, rules, limit, few))
left_of_soak told faults disk image tree number calls faulty held WordsRefused law fits many few is tells volume = absurd (nobody held is.1)
left_of_soak told faults disk image tree number calls faulty held InputFault law fits many few is tells volume = absurd (nobody held is.1)
left_of_soak told faults disk image tree number calls faulty held (JobRefused line) law fits many few is tells volume = absurd (nobody held is.1)
left_of_soak told faults disk image tree number calls faulty held (Made line) law fits many few is tells volume = absurd (nobody held is.1)
left_of_soak told faults disk image tree number calls faulty held (Checked line) law fits many few is tells volume = absurd (nobody held is.1)

pub soaks_complete : {D : Type 0} (told : D → Option Image) (faults : D → ℕ) → FiresAtMost → GeneratedAreFit → SoaksComplete told faults
soaks_complete told faults law fits words left now disk image tree held old new status number calls faulty ended command tells volume no_disk no_output =
    let range = subst IsInRange command (command_range words) in
    settle_disk status (status_of ended.outcome) (ended_at ended.printed.ended) (left_of_soak told faults disk image tree number calls faulty held ended.outcome law fits range.1 range.2
    (subst (λ (c : Option Command). ComesOfCommand told faults c left now disk held ended.outcome) command ended.is) tells volume) no_disk no_output
