-- What comes of a run, from the laws on its path.
use Rattle.std.proofs.Common.{List, ℕ, ◌<◌, ◌≤◌, count_by, ◌≡◌, ◌≢◌, ◌⊎◌, Option, None, Some, inl, inr, ap, arith, sym, subst, ◌∙◌, refl}
use Rattle.mb_core_events.specs.Beginning.{TellsVolume}
use Rattle.mb_core_spec.specs.Right.{Right}
use Rattle.mb_core_spec.specs.State.{CoreState}
use Rattle.mb_core_spec.specs.declared.stages.Stage.{Stage}
use Rattle.mb_core_spec.specs.declared.stages.Stage.TheVariants as stage
use Rattle.mb_edge.specs.Causes.{Rose}
use Rattle.mb_fsops.specs.declared.v7.V7.{V7}
use Rattle.mb_headline.specs.Headline.{EntersAsOrdered, FewerDevices, IsDone, HasGivenUp, IsRunOf, KeepsOrder, LeavesImage, SealsAsOrdered, SealsBesideEnd}
use Rattle.mb_headline.specs.Laws.{DrivesKeepOrder, DrivesApart, IsBegunFor, IsFitJob, IsPathOfRun, PathsAreRuns, PathsEnd, PathsFail}
use Rattle.mb_jobs.specs.declared.jobs.Job.{Job}
use Rattle.mb_kinds.specs.Image.{Image}
use Rattle.mb_kinds.specs.declared.entries.Entry.{Entry}
use Rattle.mb_plan.specs.Fires.{fires}
use Rattle.mb_plan.specs.declared.rules.Rule.{Rule}
use Rattle.mb_print.specs.Transcript.{end_text, failed_text}
use Rattle.mb_core_spec.specs.declared.steps.Step.{Step}
use Rattle.mb_kinds.specs.declared.faults.FaultRecord.{FaultRecord}
use Rattle.mb_run.proofs.Calm.{enters_on}
use Rattle.mb_run.proofs.Taking.{seals_more}
use Rattle.mb_run.specs.CoreSight.{sight_of}
use Rattle.mb_run.specs.Letters.{letters_of}
use Rattle.mb_run.specs.Runs.{is_seal}
use Rattle.mb_run.specs.Seals.{TrailGoesOn}
use Rattle.mb_run.specs.Drives.{IsDriven, IsDrivenApart}
use Rattle.mb_run.specs.Orders.{asked_by}
use Rattle.mb_run.specs.Settling.{IsCutShort, IsSettled, KeepsHistory, SealsAtEnd}
use Rattle.mb_run.specs.Sights.{IsOrderlyInSight}
use Rattle.mb_volume_core.proofs.Origins.{origin_of}
use Rattle.mb_volume_core.specs.declared.volume_core.Origin.{Origin}
use Rattle.mb_program.specs.Held.{HoldsCore, IsCoreOver, KeepsImage, held_disk}
use Rattle.mb_program.specs.declared.finish.Held.{Held}
use Rattle.mb_program.specs.declared.finish.Held.TheVariants as held
use Rattle.mb_program.specs.declared.manners.Manner.{Manner}
use Rattle.mb_program.specs.declared.manners.Manner.TheVariants as manners
use Rattle.mb_program.specs.Outcomes.{ClosesIfAlone, ComesOfCore, ComesOfJob, ComesOfRunWords, IsAlone, IsDiskFailure, KeepsOrderIfAlone, IsDrivenFor, asked_for, SaysText, told_text, unsettled_text}
use Rattle.mb_program.specs.declared.outcomes.Outcome.{Outcome}
use Rattle.mb_program.specs.declared.outcomes.Outcome.TheVariants.{WordsRefused, InputFault, JobRefused, DiskFault, OutOfMemory, Made, Checked, Unsound, Unsettled, GivenUp, Ran}

comes_done : {D : Type 0} (told : D → Option Image) (faults : D → ℕ) (manner : Manner) (job : Job) (disk : D) (core : CoreState V7 D) (outcome : Outcome)
    → IsRunOf told faults (asked_for manner job) job disk core → KeepsOrderIfAlone manner job core → ClosesIfAlone manner job core → IsDone job core → LeavesImage told job disk core → SaysText Ran (told_text manner end_text job core) outcome
    → ComesOfCore told faults manner job disk core outcome
comes_done told faults manner job disk core outcome run order closes all left said =
    elim said [
      | inl is ↦ subst (ComesOfCore told faults manner job disk core) (sym is) (record { run = run; order = order; closes = closes; done = all; left = left; printed = refl })
      | inr none ↦ subst (ComesOfCore told faults manner job disk core) (sym none) (run.first, run.right)
    ]

comes_given_up : {D : Type 0} (told : D → Option Image) (faults : D → ℕ) (manner : Manner) (job : Job) (disk : D) (core : CoreState V7 D) (outcome : Outcome)
    → IsRunOf told faults (asked_for manner job) job disk core → KeepsOrderIfAlone manner job core → HasGivenUp job core → LeavesImage told job disk core → SaysText GivenUp (told_text manner failed_text job core) outcome → ComesOfCore told faults manner job disk core outcome
comes_given_up told faults manner job disk core outcome run order failed left said =
    elim said [
      | inl is ↦ subst (ComesOfCore told faults manner job disk core) (sym is) (record { run = run; order = order; given_up = failed; left = left; printed = refl })
      | inr none ↦ subst (ComesOfCore told faults manner job disk core) (sym none) (run.first, run.right)
    ]

abbrev is_failed : Stage → Type 0
is_failed stage.Failed = Unit {0}
is_failed _ = ⊥

-- a run that was settled, by whether the volume failed
pub settled : {D : Type 0} (told : D → Option Image) (faults : D → ℕ) (manner : Manner) (job : Job) (disk : D) (core : CoreState V7 D) (outcome : Outcome)
    → IsRunOf told faults (asked_for manner job) job disk core → KeepsOrderIfAlone manner job core → (core.stage ≡ stage.Running → ClosesIfAlone manner job core) → (IsDone job core ⊎ HasGivenUp job core) × LeavesImage told job disk core
    → (core.stage ≡ stage.Failed → SaysText GivenUp (told_text manner failed_text job core) outcome)
    → (core.stage ≢ stage.Failed → SaysText Ran (told_text manner end_text job core) outcome)
    → ComesOfCore told faults manner job disk core outcome
settled told faults manner job disk core outcome run order closes ends failed runs =
    elim ends.0 [
      | inl is ↦ comes_done told faults manner job disk core outcome run order (closes is.runs) is ends.1 (runs (λ wrong. subst is_failed (sym wrong ∙ is.runs) tt))
      | inr is ↦ comes_given_up told faults manner job disk core outcome run order is ends.1 (failed is.failed)
    ]

-- a run in whose end the disk failed
pub unsettled : {D : Type 0} (told : D → Option Image) (faults : D → ℕ) (manner : Manner) (job : Job) (disk : D) (core : CoreState V7 D) (outcome : Outcome)
    → IsRunOf told faults (asked_for manner job) job disk core → KeepsOrderIfAlone manner job core → FewerDevices (faults disk) (faults core.cache.disk) core.journal.history → Rose (faults disk) (faults core.cache.disk) → IsCutShort (sight_of core)
    → SaysText Unsettled (unsettled_text manner job core) outcome → ComesOfCore told faults manner job disk core outcome
unsettled told faults manner job disk core outcome run order fewer rose cut said =
    elim said [
      | inl is ↦ subst (ComesOfCore told faults manner job disk core) (sym is) (record { run = run; order = order; fewer = fewer; rose = rose; cut = cut; printed = refl })
      | inr none ↦ subst (ComesOfCore told faults manner job disk core) (sym none) (run.first, run.right)
    ]

-- ---- the path of a run

order_of : {D : Type 0} (manner : Manner) (job : Job) (core : CoreState V7 D) → KeepsOrder job core.journal.history core.journal.records core.journal.trail → KeepsOrderIfAlone manner job core
order_of manners.Alone job core order = order
order_of manners.Threads job core order = tt
order_of manners.Soak job core order = order

-- one thread's checkpoints are asked for by the job's order
asked_alone : (manner : Manner) (job : Job) → IsAlone manner → asked_by job.order ≡ asked_for manner job
asked_alone manners.Alone job alone = refl
asked_alone manners.Threads job alone = absurd alone
asked_alone manners.Soak job alone = refl

-- one thread drove a core that was begun for a job, with a fault injector that goes by the job's plan
pub driven_alone : {D : Type 0} (told : D → Option Image) (faults : D → ℕ) (manner : Manner) (fs : V7) (job : Job) (disk : D) (begun driven : CoreState V7 D) (rules : List Rule)
    → DrivesApart → DrivesKeepOrder V7 D told faults → Right told faults driven → IsAlone manner → IsFitJob job → rules ≡ job.plan → IsBegunFor told faults fs job disk begun → origin_of driven ≡ origin_of begun
    → IsDriven job (Some (fires rules)) (sight_of begun) (sight_of driven) → IsDrivenFor told faults manner fs job disk driven
driven_alone {D = D} told faults manner fs job disk begun driven rules apart law right alone fit same over on drives =
    let by_plan : IsDriven job (Some (fires job.plan)) (sight_of begun) (sight_of driven) = subst (λ (r : List Rule). IsDriven job (Some (fires r)) (sight_of begun) (sight_of driven)) same drives in
    record {
      begun = begun;
      over = over;
      first = ap (λ (o : Origin D). o.first) on;
      config = ap (λ (o : Origin D). o.config) on;
      drives = subst (λ n. IsDrivenApart job n (λ (caller : ℕ). Some (fires job.plan)) (sight_of begun) (sight_of driven)) (asked_alone manner job alone) (apart job (Some (fires job.plan)) (sight_of begun) (sight_of driven) by_plan);
      order = order_of manner job driven (law fs job disk begun driven fit over right (ap (λ (o : Origin D). o.config) on) by_plan);
    }

-- what a trace begins with stays
entered_stays : (order : Option (List ℕ)) (job : Job) (history : List Entry) (trail now : List Step) → TrailGoesOn trail now → EntersAsOrdered order job history trail → EntersAsOrdered order job history now
entered_stays None job history trail now goes enters = tt
entered_stays (Some order) job history trail now goes enters = λ none device. enters_on job.calls (letters_of job.callers) order trail now goes (enters none device)

-- and its checkpoints
sealed_stays : (order : Option (List ℕ)) (records : List FaultRecord) (trail now : List Step) → TrailGoesOn trail now → SealsAsOrdered order records trail → SealsAsOrdered order records now
sealed_stays None records trail now goes asked = tt
sealed_stays (Some order) records trail now goes asked = λ none. (let few = asked none in let more = seals_more trail now goes in omega (arith, few, more))

-- history and fault records stay at the end of a run, and the trace goes on
kept_stays : {D : Type 0} (job : Job) (driven ended : CoreState V7 D) → KeepsHistory (sight_of driven) (sight_of ended) → KeepsOrder job driven.journal.history driven.journal.records driven.journal.trail
    → KeepsOrder job ended.journal.history ended.journal.records ended.journal.trail
kept_stays job driven ended keeps order =
    subst (λ (h : List Entry). KeepsOrder job h ended.journal.records ended.journal.trail) (sym keeps.history)
    (subst (λ (r : List FaultRecord). KeepsOrder job driven.journal.history r ended.journal.trail) (sym keeps.records)
    (record {
      lined = order.lined;
      firsts = order.firsts;
      enters = entered_stays job.order job driven.journal.history driven.journal.trail ended.journal.trail keeps.trail order.enters;
      taken = order.taken;
      asked = sealed_stays job.order driven.journal.records driven.journal.trail ended.journal.trail keeps.trail order.asked;
      patient = λ caller. (let low = keeps.told caller in let none = order.patient caller in omega (arith, low, none));
    }))

order_stays : {D : Type 0} (manner : Manner) (job : Job) (driven ended : CoreState V7 D) → KeepsHistory (sight_of driven) (sight_of ended) → KeepsOrderIfAlone manner job driven → KeepsOrderIfAlone manner job ended
order_stays manners.Threads job driven ended keeps order = tt
order_stays manners.Alone job driven ended keeps order = kept_stays job driven ended keeps order
order_stays manners.Soak job driven ended keeps order = kept_stays job driven ended keeps order

-- the checkpoint that ends a run comes beside those
beside_end : (order : Option (List ℕ)) (records now : List FaultRecord) (before after : List Step) → now ≡ records → count_by is_seal before < count_by is_seal after → SealsAsOrdered order records before → SealsBesideEnd order now after
beside_end None records now before after same more asked = tt
beside_end (Some order) records now before after same more asked = λ none. (let few = asked (sym same ∙ none) in omega (arith, few, more))

closes_beside : {D : Type 0} (manner : Manner) (job : Job) (driven ended : CoreState V7 D) → KeepsHistory (sight_of driven) (sight_of ended) → IsSettled (sight_of driven) (sight_of ended) → KeepsOrderIfAlone manner job driven
    → ended.stage ≡ stage.Running → ClosesIfAlone manner job ended
closes_beside manners.Threads job driven ended keeps is order runs = tt
closes_beside manners.Alone job driven ended keeps is order runs = beside_end job.order driven.journal.records ended.journal.records driven.journal.trail ended.journal.trail keeps.records (is.closes runs) order.asked
closes_beside manners.Soak job driven ended keeps is order runs = beside_end job.order driven.journal.records ended.journal.records driven.journal.trail ended.journal.trail keeps.records (is.closes runs) order.asked

module _ {D : Type 0} (told : D → Option Image) (faults : D → ℕ) (manner : Manner) (job : Job) (disk : D) (fs : V7) (driven ended : CoreState V7 D)
    (drives : IsDrivenFor told faults manner fs job disk driven) (ended_on : origin_of ended ≡ origin_of driven)
    (keeps : KeepsHistory (sight_of driven) (sight_of ended)) (at_end : SealsAtEnd (sight_of driven) (sight_of ended)) (right : Right told faults ended) (orderly : IsOrderlyInSight (sight_of ended)) where
  path : IsPathOfRun fs told faults (asked_for manner job) job disk drives.begun driven ended
  path = record {
    over = drives.over;
    drives = drives.drives;
    first = ap (λ (o : Origin D). o.first) ended_on ∙ drives.first;
    same_config = ap (λ (o : Origin D). o.config) ended_on ∙ drives.config;
    keeps = keeps;
    seals = orderly.seals;
    ends = at_end;
    right = right;
  }

  order : KeepsOrderIfAlone manner job ended
  order = order_stays manner job driven ended keeps drives.order

  pub comes_settled : (outcome : Outcome) → PathsAreRuns V7 D told faults → PathsEnd V7 D told faults → IsFitJob job → IsSettled (sight_of driven) (sight_of ended)
      → (ended.stage ≡ stage.Failed → SaysText GivenUp (told_text manner failed_text job ended) outcome)
      → (ended.stage ≢ stage.Failed → SaysText Ran (told_text manner end_text job ended) outcome)
      → ComesOfCore told faults manner job disk ended outcome
  comes_settled outcome runs ends fit is failed done =
      settled told faults manner job disk ended outcome (runs fs (asked_for manner job) job disk drives.begun driven ended fit path) order
      (closes_beside manner job driven ended keeps is drives.order) (ends fs (asked_for manner job) job disk drives.begun driven ended path is) failed done

  -- the count of faults did not fall before the end
  before : Right told faults driven → faults disk ≤ faults driven.cache.disk
  before right_driven =
      let scanned = drives.over.over.scanned in
      let later = right_driven.later in
      let same : faults driven.first ≡ faults drives.begun.first = ap faults drives.first in
      omega (arith, scanned, later, same)

  rises : {before now last : ℕ} → before ≤ now → Rose now last → Rose before last
  rises low rose = omega (arith, low, rose)

  pub comes_unsettled : (outcome : Outcome) → PathsAreRuns V7 D told faults → PathsFail V7 D told faults → IsFitJob job → Right told faults driven
      → Rose (faults driven.cache.disk) (faults ended.cache.disk) → IsCutShort (sight_of ended) → SaysText Unsettled (unsettled_text manner job ended) outcome → ComesOfCore told faults manner job disk ended outcome
  comes_unsettled outcome runs fails fit right_driven rose cut said =
      unsettled told faults manner job disk ended outcome (runs fs (asked_for manner job) job disk drives.begun driven ended fit path) order
      (fails fs (asked_for manner job) job disk drives.begun driven ended path right_driven drives.first rose) (rises (before right_driven) rose) cut said

-- the core that is held, with its outcome
pub holds : {D : Type 0} (told : D → Option Image) (faults : D → ℕ) (manner : Manner) (job : Job) (disk : D) (core : CoreState V7 D) (given : Held D) (outcome made : Outcome)
    → given ≡ held.Core core → made ≡ outcome → ComesOfCore told faults manner job disk core outcome → HoldsCore given (λ now. ComesOfCore told faults manner job disk now made)
holds {D = D} told faults manner job disk core given outcome made is same comes =
    subst (λ (h : Held D). HoldsCore h (λ now. ComesOfCore told faults manner job disk now made)) (sym is) (subst (ComesOfCore told faults manner job disk core) (sym same) comes)

-- ---- what comes of a job

pub nobody : {D : Type 0} (given : Held D) → HoldsCore given (λ (core : CoreState V7 D). ⊥) → ⊥
nobody (held.Disk disk) is = is
nobody (held.Core core) is = is

-- a core that keeps the image
pub core_keeps : {D : Type 0} (told : D → Option Image) (faults : D → ℕ) (disk : D) (given : Held D) → HoldsCore given (IsCoreOver told faults disk) → KeepsImage told faults disk given
core_keeps told faults disk (held.Disk back) is = absurd is
core_keeps told faults disk (held.Core core) is = is

pub of_core : {D : Type 0} (told : D → Option Image) (faults : D → ℕ) (manner : Manner) (job : Job) (disk : D) (given : Held D) (outcome : Outcome)
    → TellsVolume (told disk) → HoldsCore given (λ core. ComesOfCore told faults manner job disk core outcome) → ComesOfJob told faults manner job disk given outcome
of_core told faults manner job disk given WordsRefused volume is = (volume, is)
of_core told faults manner job disk given InputFault volume is = (volume, is)
of_core told faults manner job disk given (JobRefused line) volume is = (volume, is)
of_core told faults manner job disk given DiskFault volume is = absurd (nobody given is)
of_core told faults manner job disk given OutOfMemory volume is = core_keeps told faults disk given is
of_core told faults manner job disk given (Made line) volume is = (volume, is)
of_core told faults manner job disk given (Checked line) volume is = (volume, is)
of_core told faults manner job disk given (Unsound line) volume is = absurd (nobody given is)
of_core told faults manner job disk given (Unsettled text) volume is = (volume, is)
of_core told faults manner job disk given (GivenUp text) volume is = (volume, is)
of_core told faults manner job disk given (Ran text) volume is = (volume, is)

-- ---- the cause of a disk fault

fault_held : {D : Type 0} (told : D → Option Image) (faults : D → ℕ) (manner : Manner) (job : Job) (disk : D) (given : Held D) (text : List ℕ)
    → HoldsCore given (λ core. ComesOfCore told faults manner job disk core (Unsettled text)) → Rose (faults disk) (faults (held_disk given))
fault_held told faults manner job disk (held.Disk back) text is = absurd is
fault_held told faults manner job disk (held.Core core) text is = is.rose

pub fault_of_job : {D : Type 0} (told : D → Option Image) (faults : D → ℕ) (manner : Manner) (job : Job) (disk : D) (given : Held D) (outcome : Outcome)
    → ComesOfJob told faults manner job disk given outcome → IsDiskFailure outcome → Rose (faults disk) (faults (held_disk given))
fault_of_job told faults manner job disk given DiskFault is failed = is.1
fault_of_job told faults manner job disk given (Unsettled text) is failed = fault_held told faults manner job disk given text is.1
fault_of_job told faults manner job disk given _ is failed = absurd failed

-- a job is run whatever the input is
pub no_input : {D : Type 0} (told : D → Option Image) (faults : D → ℕ) (manner : Manner) (job : Job) (disk : D) (given : Held D) (outcome : Outcome)
    → ComesOfJob told faults manner job disk given outcome → outcome ≢ InputFault
no_input told faults manner job disk given outcome is same = nobody given (subst (ComesOfJob told faults manner job disk given) same is).1

pub fault_of_words : {D : Type 0} (told : D → Option Image) (faults : D → ℕ) (manner : Manner) (left now : Option (List ℕ)) (disk : D) (given : Held D) (outcome : Outcome)
    → ComesOfRunWords told faults manner left now disk given outcome → IsDiskFailure outcome → Rose (faults disk) (faults (held_disk given))
fault_of_words told faults manner left now disk given DiskFault is failed = is.fact.over.1
fault_of_words told faults manner left now disk given (Unsettled text) is failed = fault_held told faults manner is.fact.job disk given text is.fact.over.1
fault_of_words told faults manner left now disk given _ is failed = absurd failed
