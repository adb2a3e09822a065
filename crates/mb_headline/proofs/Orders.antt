-- The order of a history that one thread made.
use Rattle.std.proofs.Common.{◌≡◌, List, [], ◌∷◌, ℕ, ◌+◌, Option, None, Some, Bool, true, false, length, slice_get, refl, ap, sym, subst, ◌∙◌, arith}
use Rattle.std.proofs.lemmas.Option.{slice_get_past}
use Rattle.std.specs.List.{AllByRecursion}
use Rattle.mb_core_spec.specs.Faults.{MayNumber, Says, is_device}
use Rattle.mb_core_spec.specs.Numbers.{IsEntry}
use Rattle.mb_core_spec.specs.Right.{Right}
use Rattle.mb_core_spec.specs.State.{CoreState}
use Rattle.mb_core_spec.specs.declared.stages.Stage.{Stage}
use Rattle.mb_kinds.specs.Image.{Image}
use Rattle.mb_kinds.specs.declared.replies.Reply.{Reply}
use Rattle.mb_kinds.specs.declared.replies.Reply.TheVariants as reply
use Rattle.mb_run.specs.Calm.{AreAllPlain, HoldsNowhere}
use Rattle.mb_run.specs.CoreSight.{seat_of, sight_of}
use Rattle.mb_run.specs.Recovering.{crossing_of}
use Rattle.mb_run.specs.Runs.{TakesWhereItEntered}
use Rattle.mb_run.specs.Seals.{is_plain}
use Rattle.mb_run.specs.Stales.{stales_beyond}
use Rattle.mb_run.specs.Timely.{CountsStales}
use Rattle.mb_run.proofs.Stales.{none_beyond}
use Rattle.mb_kinds.specs.declared.entries.Flight.{Flight}
use Rattle.mb_headline.proofs.Begun.{idle_seat}
use Rattle.mb_headline.proofs.Running.{of_declared}
use Rattle.mb_headline.specs.Laws.{IsBegunFor}
use Rattle.mb_edge.specs.declared.crossings.Crossing.{Crossing}
use Rattle.mb_jobs.specs.declared.jobs.Caller.{Caller}
use Rattle.mb_jobs.specs.declared.jobs.Job.{Job}
use Rattle.mb_kinds.specs.declared.entries.Entry.{Entry}
use Rattle.mb_run.specs.Drives.{EntersByOrder, IsDriven, IsDrivenApart, RisesByOrder, SealsByOrder, TakesByOrder}
use Rattle.mb_run.specs.Letters.{AreLetters, letters_of}
use Rattle.mb_run.specs.Orders.{asked_by}
use Rattle.mb_run.specs.Served.{AreSound, AreSoundBy}
use Rattle.mb_run.specs.Sights.{SightSeat, Sight}
use Rattle.mb_kinds.specs.declared.faults.FaultRecord.{FaultRecord}
use Rattle.mb_plan.specs.Fires.{fires}
use Rattle.mb_plan.specs.declared.rules.Rule.{Rule}
use Rattle.mb_core_spec.specs.declared.stages.Stage.TheVariants as stage
use Rattle.mb_headline.specs.Headline.{EntersAsOrdered, HasNoDevice, KeepsOrder, RiseAsOrdered, SealsAsOrdered, TakesPlanned}

-- the letters of a job are as an order wants them
rise_as_ordered : (order : Option (List ℕ)) (callers : List Caller) (history : List Entry) → AreLetters (letters_of callers) → RisesByOrder order callers history → RiseAsOrdered order callers history
rise_as_ordered None callers history letters rises = tt
rise_as_ordered (Some order) callers history letters rises = rises letters

-- what was taken by the plan's test was taken by the plan
planned_taken : (order : Option (List ℕ)) (plan : List Rule) (sight : Sight) (start bound : ℕ) → AllByRecursion (IsEntry start bound sight.config.callers) sight.history → TakesByOrder order (Some (fires plan)) sight
    → TakesPlanned order plan sight.history sight.records
planned_taken None plan sight start bound are taken = taken
planned_taken (Some order) plan sight start bound are taken = of_declared (TakesWhereItEntered (Some (fires plan)) sight.records) start bound sight.config.callers sight.config.callers sight.history refl are taken

-- what was taken of checkpoints over a core that was begun without any records
sealed_as_ordered : (order : Option (List ℕ)) (old new : Sight) → old.records ≡ [] → old.stage ≡ stage.Running → SealsByOrder order old new → SealsAsOrdered order new.records new.trail
sealed_as_ordered None old new none runs asks = tt
sealed_as_ordered (Some order) old new none runs asks = λ no_records.
    let few = asks.takes (ap length no_records ∙ sym (ap length none)) runs in omega (arith, few)

-- ---- without a plan

no_both : true ≡ false → ⊥
no_both same = cc

no_record : (fault : FaultRecord) → None ≡ Some fault → ⊥
no_record fault same = cc

-- an empty plan has no fault records
no_records : (plan : List Rule) (records : List FaultRecord) → plan ≡ [] → AreSound (Some (fires plan)) records → records ≡ []
no_records plan [] none sound = refl
no_records plan (fault ∷ records) none sound = absurd (no_both (sym sound.holds.0 ∙ ap (λ (rules : List Rule). fires rules (crossing_of fault)) none))

-- nor does its fault injector fault
holds_nowhere : (plan : List Rule) → plan ≡ [] → HoldsNowhere (Some (fires plan))
holds_nowhere plan none = λ crossing. ap (λ (rules : List Rule). fires rules crossing) none

-- without fault records a reply that is not the disk's is plain
plain_reply : (limit : ℕ) (now : Stage) (caller ordinal : ℕ) (answer : Reply) → MayNumber 0 limit now → Says [] limit now caller ordinal answer → is_device answer ≡ false → is_plain answer ≡ true
plain_reply limit now caller ordinal (reply.Restart first second) few says device = absurd (no_record says.one.fault (sym (slice_get_past [] says.one.place (omega arith)) ∙ says.one.at))
plain_reply limit now caller ordinal (reply.Failed faults) few says device = absurd (let many : 0 ≡ limit + 1 = subst (MayNumber 0 limit) says.1 few in omega (arith, many))
plain_reply limit now caller ordinal reply.Device few says device = absurd (no_both device)
plain_reply limit now caller ordinal (reply.Num number) few says device = refl
plain_reply limit now caller ordinal (reply.Got bytes) few says device = refl
plain_reply limit now caller ordinal (reply.Info stat) few says device = refl
plain_reply limit now caller ordinal (reply.Refused e) few says device = refl

all_plain : (limit : ℕ) (now : Stage) (history : List Entry) → MayNumber 0 limit now → AllByRecursion (λ (entry : Entry). Says [] limit now entry.caller entry.ordinal entry.reply) history → HasNoDevice history → AreAllPlain history
all_plain limit now [] few says device = tt
all_plain limit now (entry ∷ history) few says device = (plain_reply limit now entry.caller entry.ordinal entry.reply few says.0 device.0, all_plain limit now history few says.1 device.1)

plain_without : (records : List FaultRecord) (limit : ℕ) (now : Stage) (history : List Entry) → records ≡ [] → MayNumber (length records) limit now
    → AllByRecursion (λ (entry : Entry). Says records limit now entry.caller entry.ordinal entry.reply) history → HasNoDevice history → AreAllPlain history
plain_without records limit now history none few says device =
    all_plain limit now history (subst (λ (rs : List FaultRecord). MayNumber (length rs) limit now) none few)
    (subst (λ (rs : List FaultRecord). AllByRecursion (λ (entry : Entry). Says rs limit now entry.caller entry.ordinal entry.reply) history) none says) device

enters_as_ordered : (order : Option (List ℕ)) (job : Job) (sight : Sight) → AreLetters (letters_of job.callers) → (job.plan ≡ [] → HasNoDevice sight.history → AreAllPlain sight.history)
    → EntersByOrder order job.callers job.calls (Some (fires job.plan)) sight → EntersAsOrdered order job sight.history sight.trail
enters_as_ordered None job sight letters plain enters = tt
enters_as_ordered (Some order) job sight letters plain enters = λ none device. enters (holds_nowhere job.plan none) letters (plain none device)

-- ---- what one thread leaves

no_flight : (flight : Flight) → None ≡ Some flight → ⊥
no_flight flight same = cc

module _ {F D : Type 0} (told : D → Option Image) (faults : D → ℕ) (fs : F) (job : Job) (disk : D) (begun driven : CoreState F D) (over : IsBegunFor told faults fs job disk begun) where
  runs : (sight_of begun).stage ≡ stage.Running
  runs = ap (λ (core : CoreState F D). core.stage) over.over.begun

  no_faults : (sight_of begun).records ≡ []
  no_faults = ap (λ (core : CoreState F D). core.journal.records) over.over.begun

  bare : (sight_of begun).trail ≡ []
  bare = ap (λ (core : CoreState F D). core.journal.trail) over.over.begun

  nobody : (caller : ℕ) → ((sight_of begun).seats caller).flight ≡ None
  nobody caller = ap (λ (core : CoreState F D). (seat_of (slice_get core.callers caller)).flight) over.over.begun ∙ ap (λ (s : SightSeat). s.flight) (idle_seat (length over.config.callers) caller)

  -- no call is in flight yet
  counts : CountsStales (sight_of begun)
  counts caller flight ticket here mine lacks = absurd (no_flight flight (sym (nobody caller) ∙ here))

  pub order_kept : AreLetters (letters_of job.callers) → Right told faults driven → IsDriven job (Some (fires job.plan)) (sight_of begun) (sight_of driven)
      → KeepsOrder job driven.journal.history driven.journal.records driven.journal.trail
  order_kept letters right drives = record {
    lined = drives.lined;
    firsts = rise_as_ordered job.order job.callers driven.journal.history letters drives.firsts;
    enters = enters_as_ordered job.order job (sight_of driven) letters
        (λ none device. plain_without driven.journal.records driven.config.limit driven.stage driven.journal.history (no_records job.plan driven.journal.records none drives.sound)
        right.orderly.numbered.few right.orderly.numbered.says device)
        (drives.enters runs bare);
    taken = planned_taken job.order job.plan (sight_of driven) _ _ right.orderly.numbered.entries (drives.taken runs);
    asked = sealed_as_ordered job.order (sight_of begun) (sight_of driven) no_faults runs drives.asks;
    patient = λ caller. (let low = (drives.seals.told counts).few caller in let none = ap (stales_beyond caller) bare ∙ none_beyond caller in omega (arith, low, none));
  }

-- one fault injector is each caller's
sound_by_all : (test : Option (Crossing → Bool)) (records : List FaultRecord) → AreSound test records → AreSoundBy (λ (caller : ℕ). test) records
sound_by_all test records sound = record { holds = sound.holds; apart = sound.apart }

pub driven_apart : (job : Job) (test : Option (Crossing → Bool)) (old new : Sight) → IsDriven job test old new → IsDrivenApart job (asked_by job.order) (λ (caller : ℕ). test) old new
driven_apart job test old new drives = record {
  config = drives.config;
  free = drives.free;
  own_calls = drives.own_calls;
  begun = drives.begun;
  moments = drives.moments;
  sound = sound_by_all test new.records drives.sound;
  once = drives.once;
  seals = drives.seals.undue;
  prompt = drives.seals.prompt;
  late = drives.seals.late;
}
