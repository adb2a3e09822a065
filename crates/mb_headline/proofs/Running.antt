-- A job that was begun, driven and ended.
use Rattle.std.proofs.Common.{◌≡◌, ◌≢◌, List, [], ◌∷◌, ℕ, ◌<◌, suc, ◌≤◌, true, false, Option, None, Some, IsSome, length, slice_get, refl, ap, sym, subst, ◌∙◌, arith}
use Rattle.std.proofs.lemmas.List.{length-map}
use Rattle.std.specs.List.{AllByRecursion}
use Rattle.mb_core_order.proofs.Readings.{in_places}
use Rattle.mb_core_spec.specs.Callers.{total}
use Rattle.mb_core_spec.specs.Faults.{FewDevices, MayNumber, Says}
use Rattle.mb_core_spec.specs.Numbers.{IsEntry}
use Rattle.mb_core_spec.specs.State.{CallerState, CoreState}
use Rattle.mb_core_spec.specs.declared.stages.Stage.{Stage}
use Rattle.mb_jobs.specs.declared.jobs.Caller.{Caller}
use Rattle.mb_jobs.specs.declared.jobs.Job.{Job}
use Rattle.mb_kinds.specs.Image.{Image}
use Rattle.mb_kinds.specs.declared.entries.Entry.{Entry}
use Rattle.mb_kinds.specs.declared.faults.FaultRecord.{FaultRecord}
use Rattle.mb_kinds.specs.declared.replies.Reply.{Reply}
use Rattle.mb_kinds.specs.declared.replies.Reply.TheVariants as reply
use Rattle.mb_plan.specs.Fires.{fires}
use Rattle.mb_plan.specs.declared.rules.Rule.{Rule}
use Rattle.mb_run.specs.CoreSight.{seat_of, sight_of}
use Rattle.mb_run.specs.Drives.{HasEachMoment}
use Rattle.mb_run.specs.Sights.{SightSeat, omitted_in, undue_in}
use Rattle.mb_run.specs.Recovering.{crossing_of}
use Rattle.mb_run.specs.Runs.{AreDistinct, AnswersFailed, HasRecords, IsStruckOnceIfPlain, NamesTwo}
use Rattle.mb_run.specs.Seals.{AreAskedFor, AreInTime, late, omitted}
use Rattle.mb_run.specs.Served.{AreApart, AreSoundBy, IsApart, calls_in}
use Rattle.mb_tree.specs.History.{Legal}
use Rattle.mb_tree.specs.Opening.{opening}
use Rattle.mb_tree.specs.declared.trees.Tree.{Tree}
use Rattle.mb_headline.specs.Headline.{HasHistory, HasOrdinals, HasOwnCalls, IsConfigOf, IsRunOf, opened}
use Rattle.mb_headline.specs.Laws.{IsEarly, IsPathOfRun}
use Rattle.mb_run.proofs.Omitted.{none_omitted}
use Rattle.mb_run.proofs.Sealings.{none_undue}
use Rattle.mb_headline.proofs.Planned.{fires_early}

-- ---- what the disk tells

pub told_now : (told : Option Image) → IsSome told → (image : Image) × (told ≡ Some image)
told_now (Some image) is = (image, refl)
told_now None is = absurd (let wrong : false ≡ true = is in cc)

-- ---- the fault records

abbrev IsPlanned : List Rule → FaultRecord → Type 0
IsPlanned plan fault = fires plan (crossing_of fault) ≡ true

-- what is planned comes early, so no two records are one
never_twice : (plan : List Rule) (one other : FaultRecord) → AllByRecursion IsEarly plan → IsPlanned plan one → IsApart one other → one ≢ other
never_twice plan one other early planned apart same =
    let last = apart same in
    let low = fires_early plan (crossing_of one) early planned in absurd (omega (arith, last, low))

apart_from : (plan : List Rule) (one : FaultRecord) (later : List FaultRecord) → AllByRecursion IsEarly plan → IsPlanned plan one → AllByRecursion (IsApart one) later
    → AllByRecursion (λ (other : FaultRecord). one ≢ other) later
apart_from plan one [] early planned apart = tt
apart_from plan one (other ∷ later) early planned apart = (never_twice plan one other early planned apart.0, apart_from plan one later early planned apart.1)

pub distinct : (plan : List Rule) (records : List FaultRecord) → AllByRecursion IsEarly plan → AllByRecursion (IsPlanned plan) records → AreApart records → AreDistinct records
distinct plan [] early planned apart = tt
distinct plan (one ∷ later) early planned apart = (apart_from plan one later early planned.0 apart.0, distinct plan later early planned.1 apart.1)

-- ---- what the entries say of the fault records

says_twice : (records : List FaultRecord) (limit : ℕ) (now : Stage) (entry : Entry) (answer : Reply) → Says records limit now entry.caller entry.ordinal answer → NamesTwo records entry answer
says_twice records limit now entry (reply.Restart first second) says = says
says_twice records limit now entry (reply.Num number) says = tt
says_twice records limit now entry (reply.Got bytes) says = tt
says_twice records limit now entry (reply.Info stat) says = tt
says_twice records limit now entry (reply.Refused e) says = tt
says_twice records limit now entry reply.Device says = tt
says_twice records limit now entry (reply.Failed faults) says = tt

says_failed : (records : List FaultRecord) (limit : ℕ) (now : Stage) (caller ordinal : ℕ) (answer : Reply) → MayNumber (length records) limit now → Says records limit now caller ordinal answer → AnswersFailed limit records answer
says_failed records limit now caller ordinal (reply.Failed faults) few says = (says.0, subst (MayNumber (length records) limit) says.1 few)
says_failed records limit now caller ordinal (reply.Restart first second) few says = tt
says_failed records limit now caller ordinal (reply.Num number) few says = tt
says_failed records limit now caller ordinal (reply.Got bytes) few says = tt
says_failed records limit now caller ordinal (reply.Info stat) few says = tt
says_failed records limit now caller ordinal (reply.Refused e) few says = tt
says_failed records limit now caller ordinal reply.Device few says = tt

all_twice : (records : List FaultRecord) (limit : ℕ) (now : Stage) (history : List Entry) → AllByRecursion (λ (entry : Entry). Says records limit now entry.caller entry.ordinal entry.reply) history
    → AllByRecursion (λ (entry : Entry). NamesTwo records entry entry.reply) history
all_twice records limit now [] says = tt
all_twice records limit now (entry ∷ history) says = (says_twice records limit now entry entry.reply says.0, all_twice records limit now history says.1)

all_failed : (records : List FaultRecord) (limit : ℕ) (now : Stage) (history : List Entry) → MayNumber (length records) limit now → AllByRecursion (λ (entry : Entry). Says records limit now entry.caller entry.ordinal entry.reply) history
    → AllByRecursion (λ (entry : Entry). AnswersFailed limit records entry.reply) history
all_failed records limit now [] few says = tt
all_failed records limit now (entry ∷ history) few says = (says_failed records limit now entry.caller entry.ordinal entry.reply few says.0, all_failed records limit now history few says.1)

-- ---- how many calls were begun

-- callers that began as many calls each began as many together
same_begun : (now old : List CallerState) → ((caller : ℕ) → (seat_of (slice_get now caller)).begun ≡ (seat_of (slice_get old caller)).begun)
    → total (λ (mine : CallerState). mine.begun) now ≡ total (λ (mine : CallerState). mine.begun) old
same_begun [] [] each = refl
same_begun [] (mine ∷ old) each =
    let none : 0 ≡ mine.begun = each 0 in
    let rest = same_begun [] old (λ caller. each (suc caller)) in
    omega (arith, none, rest)
same_begun (mine ∷ now) [] each =
    let none : mine.begun ≡ 0 = each 0 in
    let rest = same_begun now [] (λ caller. each (suc caller)) in
    omega (arith, none, rest)
same_begun (mine ∷ now) (one ∷ old) each =
    let first : mine.begun ≡ one.begun = each 0 in
    let rest = same_begun now old (λ caller. each (suc caller)) in
    omega (arith, first, rest)

-- each entry is of a declared caller
pub of_declared : (Fact : Entry → Type 0) (start bound callers named : ℕ) (history : List Entry) → callers ≡ named → AllByRecursion (IsEntry start bound callers) history → AllByRecursion (λ (entry : Entry). entry.caller < named → Fact entry) history
    → AllByRecursion Fact history
of_declared Fact start bound callers named [] same are all = tt
of_declared Fact start bound callers named (entry ∷ history) same are all = (
  let low = are.0.caller in all.0 (omega (arith, low, same)),
  of_declared Fact start bound callers named history same are.1 all.1,
)

-- ---- the path

module _ {F D : Type 0} (fs : F) (told : D → Option Image) (faults : D → ℕ) (asked : ℕ) (job : Job) (disk : D) (begun driven ended : CoreState F D) (path : IsPathOfRun fs told faults asked job disk begun driven ended) where
  pub path_first : told ended.first ≡ told disk
  path_first = ap told path.first ∙ path.over.over.first

  pub path_config : IsConfigOf job ended.config
  path_config = subst (IsConfigOf job) (sym (path.same_config ∙ ap (λ (core : CoreState F D). core.config) path.over.over.begun)) path.over.config_is

  pub path_opened : (tree : Tree) → opening tree ended.config.callers ≡ opened job tree
  path_opened tree = ap (opening tree) path_config.callers

  -- the history and the fault records are those that the driver left
  pub path_history : ended.journal.history ≡ driven.journal.history
  path_history = path.keeps.history

  pub path_records : ended.journal.records ≡ driven.journal.records
  path_records = path.keeps.records

  pub path_scanned : faults disk ≤ faults ended.first
  path_scanned = subst (λ d. faults disk ≤ faults d) (sym path.first) path.over.over.scanned

  path_legal : HasHistory told job disk ended.journal.history
  path_legal image tree is volume =
      let now = told_now (told ended.cache.disk) (path.right.tells image (path_first ∙ is)) in
      let legal = (path.right.holds image now.0 tree (path_first ∙ is) now.1 volume).legal.legal in
      subst (λ start. Legal (opened job tree) start ended.journal.history) path_config.start (subst (λ m. Legal m ended.config.start ended.journal.history) (path_opened tree) legal)

  path_calls : HasOwnCalls job ended.journal.history
  path_calls caller low = ap (λ h. calls_in h caller) path_history ∙ path.drives.own_calls caller low

  path_begun : total (λ (mine : CallerState). mine.begun) ended.callers ≡ length ended.journal.history
  path_begun = same_begun ended.callers driven.callers (λ caller. ap (λ (seat : SightSeat). seat.begun) (path.keeps.seats caller)) ∙ path.drives.begun ∙ ap length (sym path_history)

  path_ordinals : HasOrdinals job ended.journal.history
  path_ordinals caller low =
      let declared : length ended.config.callers ≡ length job.callers = ap length path_config.callers ∙ length-map job.callers (λ (one : Caller). one.cred) in
      let seated = path.right.orderly.numbered.callers_are in
      in_places ended path.right.orderly path_begun caller (omega (arith, low, declared, seated))

  path_sound : AreSoundBy (λ (caller : ℕ). Some (fires job.plan)) ended.journal.records
  path_sound = subst (AreSoundBy (λ (caller : ℕ). Some (fires job.plan))) (sym path_records) path.drives.sound

  -- a call that was struck twice before it had its entry has no plain reply
  path_once : AllByRecursion (IsStruckOnceIfPlain ended.journal.records) ended.journal.history
  path_once =
      let declared : length ended.config.callers ≡ length job.callers = ap length path_config.callers ∙ length-map job.callers (λ (one : Caller). one.cred) in
      of_declared (IsStruckOnceIfPlain ended.journal.records) _ _ (length ended.config.callers) (length job.callers) ended.journal.history declared path.right.orderly.numbered.entries
      (rw (path_history, path_records) path.drives.once)

  path_says : AllByRecursion (λ (entry : Entry). Says ended.journal.records job.limit ended.stage entry.caller entry.ordinal entry.reply) ended.journal.history
  path_says = subst (λ n. AllByRecursion (λ (entry : Entry). Says ended.journal.records n ended.stage entry.caller entry.ordinal entry.reply) ended.journal.history) path_config.limit path.right.orderly.numbered.says

  pub path_few : MayNumber (length ended.journal.records) job.limit ended.stage
  path_few = subst (λ n. MayNumber (length ended.journal.records) n ended.stage) path_config.limit path.right.orderly.numbered.few

  path_recorded : AllByRecursion IsEarly job.plan → HasRecords job.plan ended.journal.history ended.journal.records
  path_recorded early = record {
    planned = path_sound.holds;
    distinct = distinct job.plan ended.journal.records early path_sound.holds path_sound.apart;
    twice = all_twice ended.journal.records job.limit ended.stage ended.journal.history path_says;
    once = path_once;
  }

  path_devices : FewDevices (faults disk) (faults ended.cache.disk) ended.journal.history
  path_devices low =
      let count = path.right.devices low in
      omega (arith, count, path_scanned)

  -- nothing was taken when the core began
  path_began : undue_in (sight_of begun) ≡ 0
  path_began = ap (λ (core : CoreState F D). undue_in (sight_of core)) path.over.over.begun ∙ none_undue path.over.config.threshold []

  path_checkpoints : AreAskedFor job.threshold asked ended.journal.history ended.journal.trail
  path_checkpoints =
      let driving = path.drives.seals in
      let low = path.ends.few in
      subst (λ n. AreAskedFor n asked ended.journal.history ended.journal.trail) path_config.threshold
      (record { run = path.ends.run; few = omega (arith, path_began, driving, low); ends = path.ends.ends })

  path_prompt : omitted ended.journal.history ended.journal.trail ≡ 0
  path_prompt =
      let none = ap (λ (core : CoreState F D). omitted_in (sight_of core)) path.over.over.begun ∙ none_omitted [] in
      let driving = path.drives.prompt in
      let low = path.keeps.prompt in
      omega (arith, none, driving, low)

  path_last : late ended.journal.history ≡ 0
  path_last =
      let none = ap (λ (core : CoreState F D). late core.journal.history) path.over.over.begun in
      let driving = path.drives.late in
      let same = ap late path_history in
      omega (arith, none, driving, same)

  pub path_run : AllByRecursion IsEarly job.plan → IsRunOf told faults asked job disk ended
  path_run early = record {
    right = path.right;
    first = path_first;
    config = path_config;
    legal = path_legal;
    own_calls = path_calls;
    ordinals = path_ordinals;
    moments = subst (HasEachMoment job.start) (sym path_history) path.drives.moments;
    records = path_recorded early;
    failures = all_failed ended.journal.records job.limit ended.stage ended.journal.history path_few path_says;
    devices = path_devices;
    seals = subst (λ n. AreInTime n (length ended.journal.oplog) ended.journal.sealed_at ended.journal.history) path_config.threshold path.seals;
    checkpoints = path_checkpoints;
    prompt = path_prompt;
    last = path_last;
  }
