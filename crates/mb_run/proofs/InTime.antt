-- Checkpoints are in time after each event, where they were before it.
use Rattle.std.proofs.Common.{◌≡◌, inl, inr, List, [], ◌∷◌, ◌++◌, ℕ, zero, suc, ◌<◌, ◌≤◌, Bool, true, false, ◌&&◌, ◌||◌, Option, None, Some, IfSome, drop, length, refl, ap, sym, subst, ◌∙◌, arith}
use Rattle.std.proofs.lemmas.Bool.Decides.{nat_tests}
use Rattle.std.specs.List.{AllByRecursion}
use Rattle.std.specs.Prelude.{nat_le}
use Rattle.mb_cache.specs.declared.answers.Flushed.{Flushed}
use Rattle.mb_cache.specs.declared.answers.Flushed.TheVariants as flushed
use Rattle.mb_core_spec.specs.Copies.{PagesState}
use Rattle.mb_core_state.specs.declared.answers.Fault.{Fault}
use Rattle.mb_core_state.specs.declared.answers.Fault.TheVariants as fault
use Rattle.mb_core_state.specs.declared.answers.Finished.{Finished}
use Rattle.mb_core_state.specs.declared.answers.Finished.TheVariants as finished
use Rattle.mb_core_state.specs.declared.answers.Gathered.{Gathered}
use Rattle.mb_core_state.specs.declared.answers.Gathered.TheVariants as gathered
use Rattle.mb_core_state.specs.declared.answers.Left.{Left}
use Rattle.mb_core_state.specs.declared.answers.Left.TheVariants as left
use Rattle.mb_edge.specs.declared.crossings.Crossing.{Crossing}
use Rattle.mb_edge.specs.declared.crossings.Crossings.{Crossings}
use Rattle.mb_iface.specs.declared.replies.Need.{Need}
use Rattle.mb_kinds.specs.declared.calls.Call.{Call}
use Rattle.mb_kinds.specs.declared.entries.Entry.{Entry}
use Rattle.mb_kinds.specs.declared.entries.Flight.{Flight}
use Rattle.mb_kinds.specs.declared.faults.Kind.{Kind}
use Rattle.mb_kinds.specs.declared.faults.Ticket.{Ticket}
use Rattle.mb_kinds.specs.declared.replies.Reply.{Reply}
use Rattle.mb_kinds.specs.declared.replies.Reply.TheVariants as reply
use Rattle.mb_run.specs.Events.{Answers, EntersInSight, FaultsWith, FinishesInSight, FlushesWith, GathersInSight, IsCallOf, IsUnplain, LeavesWith, LogsInTime, Quits, SealsIf, entry_of, sealed}
use Rattle.mb_run.specs.Recovering.{StepEndsByDevice, RunsForFlight, Steps, StrikesBy, Waits}
use Rattle.mb_run.specs.Seals.{AreInTime, is_due, is_plain, is_sync, is_synced}
use Rattle.mb_run.specs.Sights.{SeatHasTicket, Limits, Sight, flight_of}
use Rattle.mb_run.specs.declared.answers.EnterAnswer.{EnterAnswer}
use Rattle.mb_run.specs.declared.answers.EnterAnswer.TheVariants as enter
use Rattle.mb_run.specs.declared.answers.StepAnswer.{StepAnswer}
use Rattle.mb_run.specs.declared.answers.StepAnswer.TheVariants as stepped
use Rattle.mb_run.proofs.Once.{unplain_is}

-- checkpoints are in time as a driver sees it
abbrev pub InTime : Sight → Type 0
InTime sight = AreInTime sight.config.threshold sight.ops sight.sealed_at sight.history

-- ---- entries behind a place

none_behind : {X : Type 0} (P : X → Type 0) (n : ℕ) → AllByRecursion P (drop n [])
none_behind P zero = tt
none_behind P (suc n) = tt

behind_push : {X : Type 0} (P : X → Type 0) (n : ℕ) (xs : List X) (x : X) → AllByRecursion P (drop n xs) → P x → AllByRecursion P (drop n (xs ++ x ∷ []))
behind_push P zero [] x all last = (last, tt)
behind_push P zero (y ∷ xs) x all last = (all.0, behind_push P zero xs x all.1 last)
behind_push P (suc n) [] x all last = none_behind P n
behind_push P (suc n) (y ∷ xs) x all last = behind_push P n xs x all last

behind_all : {X : Type 0} (P : X → Type 0) (xs : List X) → AllByRecursion P (drop (length xs) xs)
behind_all P [] = tt
behind_all P (x ∷ xs) = behind_all P xs

-- ---- what an event does to the log

module _ (old new : Sight) (config : new.config ≡ old.config) (was : InTime old) where
  threshold : new.config.threshold ≡ old.config.threshold
  threshold = ap (λ (limits : Limits). limits.threshold) config

  module _ (ops : new.ops ≤ old.ops) (sealed_at : new.sealed_at ≡ old.sealed_at) where
    few : new.ops < new.config.threshold
    few = let same = threshold in let fewer = ops in let low = was.few in omega (arith, same, fewer, low)

    synced_at : (history : List Entry) → new.history ≡ history → AllByRecursion (λ (entry : Entry). is_synced entry ≡ false) (drop old.sealed_at history)
        → AllByRecursion (λ (entry : Entry). is_synced entry ≡ false) (drop new.sealed_at new.history)
    synced_at history is all =
        subst (λ (h : List Entry). AllByRecursion (λ (entry : Entry). is_synced entry ≡ false) (drop new.sealed_at h)) (sym is)
        (subst (λ n. AllByRecursion (λ (entry : Entry). is_synced entry ≡ false) (drop n history)) (sym sealed_at) all)

    -- no entry more
    pub kept_time : new.history ≡ old.history → InTime new
    kept_time history = record { few = few; synced = synced_at old.history history was.synced }

    -- an entry more, which is no sync(2) that was done
    pub entry_time : (entry : Entry) → new.history ≡ old.history ++ entry ∷ [] → is_synced entry ≡ false → InTime new
    entry_time entry history not = record {
      few = few;
      synced = synced_at (old.history ++ entry ∷ []) history (behind_push (λ (e : Entry). is_synced e ≡ false) old.sealed_at old.history entry was.synced not);
    }

pub same_time : (old new : Sight) → new ≡ old → InTime old → InTime new
same_time old new same was = subst InTime (sym same) was

pub sealed_time : (old new : Sight) → 0 < old.config.threshold → new ≡ sealed old new → InTime new
sealed_time old new some is = subst InTime (sym is) (record { few = some; synced = behind_all (λ (entry : Entry). is_synced entry ≡ false) old.history })

-- ---- a call that ends with an entry which is not the model's step

and_false : (b : Bool) → (b && false) ≡ false
and_false true = refl
and_false false = refl

answered_time : (caller : ℕ) (flight : Flight) (answer : Reply) (old new : Sight) → IsUnplain answer → Answers caller flight answer old new → InTime old → InTime new
answered_time caller flight answer old new is answers was =
    entry_time old new answers.stays.config was answers.log.ops answers.log.sealed_at (entry_of caller flight None answer) answers.history
    (ap (λ b. is_sync flight.call && b) (unplain_is answer is) ∙ and_false (is_sync flight.call))

-- ---- the events

pub enters_time : (old new : Sight) (caller : ℕ) (call : Call) (answer : EnterAnswer) → EntersInSight old new caller call answer → InTime old → InTime new
enters_time old new caller call (enter.Done answer) (inl left) was = kept_time old new left.1.stays.config was left.1.log.ops left.1.log.sealed_at left.1.counts.history
enters_time old new caller call (enter.Done answer) (inr ended) was = answered_time caller (flight_of old caller call (old.seats caller).flight) answer old new ended.1 ended.2 was
enters_time old new caller call enter.Shut shut was = kept_time old new shut.2.stays.config was shut.2.log.ops shut.2.log.sealed_at shut.2.history
enters_time old new caller call (enter.Inside ticket) inside was = kept_time old new inside.begins.stays.config was inside.begins.log.ops inside.begins.log.sealed_at inside.begins.history
enters_time old new caller call enter.NoMemory none was = same_time old new none.0 was

pub gathers_time : (old new : Sight) (ticket : Ticket) (need : Need) (before now : PagesState) (answer : Gathered) → SeatHasTicket false (old.seats ticket.caller) ticket → GathersInSight old new ticket need before now answer → InTime old → InTime new
gathers_time old new ticket need before now (gathered.Skip mine present) has gathers was = same_time old new gathers.1 was
gathers_time old new ticket need before now gathered.Device has gathers was = answered_time ticket.caller has.flight reply.Device old new tt (gathers.1 has.flight has.here) was
gathers_time old new ticket need before now gathered.NoMemory has gathers was = same_time old new gathers.0 was
gathers_time old new ticket need before now gathered.Done has gathers was = kept_time old new gathers.1.stays.config was gathers.1.log.ops gathers.1.log.sealed_at gathers.1.counts.history

or_false : (a b : Bool) → (a || b) ≡ false → (a ≡ false) × (b ≡ false)
or_false true b is = absurd (let wrong : true ≡ false = is in cc)
or_false false b is = (refl, is)

-- a call is logged, and the checkpoint that is due is taken
logged_time : (old new : Sight) (ticket : Ticket) (call : Call) → IsCallOf (old.seats ticket.caller) call → LogsInTime ticket.caller old new ticket call → InTime old → InTime new
logged_time old new ticket call of in_time was = sealed_if (is_due in_time.logged.config.threshold in_time.logged.ops call) refl in_time.seals where
  logged : Sight
  logged = in_time.logged

  same : logged.config.threshold ≡ old.config.threshold
  same = ap (λ (limits : Limits). limits.threshold) in_time.logs.stays.config

  unsealed : is_due logged.config.threshold logged.ops call ≡ false → InTime logged
  unsealed is =
      let not = or_false (nat_le logged.config.threshold logged.ops) (is_sync call) is in
      let made : is_sync in_time.logs.flight.call ≡ false = ap is_sync (of in_time.logs.flight in_time.logs.was) ∙ not.1 in
      record {
        few = grind (arith, nat_tests, not.0);
        synced =
            subst (λ (h : List Entry). AllByRecursion (λ (entry : Entry). is_synced entry ≡ false) (drop logged.sealed_at h)) (sym in_time.logs.history)
            (subst (λ n. AllByRecursion (λ (entry : Entry). is_synced entry ≡ false) (drop n (old.history ++ entry_of ticket.caller in_time.logs.flight in_time.logs.pick in_time.logs.answer ∷ []))) (sym in_time.logs.sealed_at)
            (behind_push (λ (e : Entry). is_synced e ≡ false) old.sealed_at old.history (entry_of ticket.caller in_time.logs.flight in_time.logs.pick in_time.logs.answer) was.synced
            (ap (λ b. b && is_plain in_time.logs.answer) made)));
      }

  sealed_if : (due : Bool) → is_due logged.config.threshold logged.ops call ≡ due → SealsIf due logged new → InTime new
  sealed_if true is seals = sealed_time logged new (let few = was.few in omega (arith, same, few)) seals
  sealed_if false is seals = same_time logged new seals (unsealed is)

pub finishes_time : (old new : Sight) (ticket : Ticket) (pages : PagesState) (call : Call) (answer : Finished) → IsCallOf (old.seats ticket.caller) call → FinishesInSight old new ticket pages call answer → InTime old → InTime new
finishes_time old new ticket pages call (finished.Skip mine present) of finishes was = same_time old new finishes.1 was
finishes_time old new ticket pages call (finished.Busy holder) of finishes was = same_time old new finishes.3 was
finishes_time old new ticket pages call (finished.Stale block) of finishes was = kept_time old new finishes.1.stays.config was finishes.1.ops finishes.1.sealed_at finishes.1.counts.history
finishes_time old new ticket pages call finished.NoMemory of finishes was = same_time old new finishes.1 was
finishes_time old new ticket pages call finished.Logged of finishes was = logged_time old new ticket call of finishes.2 was

pub leaves_time : (old new : Sight) (ticket : Ticket) (answer : Left) → LeavesWith old new ticket answer → InTime old → InTime new
leaves_time old new ticket (left.Skip mine present) leaves was = same_time old new leaves.1 was
leaves_time old new ticket (left.Left answer) leaves was = kept_time old new leaves.1.1.stays.config was leaves.1.1.log.ops leaves.1.1.log.sealed_at leaves.1.1.counts.history

pub faults_time : (old new : Sight) (ticket : Ticket) (kind : Kind) (nth : ℕ) (answer : Fault) → FaultsWith old new ticket kind nth answer → InTime old → InTime new
faults_time old new ticket kind nth (fault.Skip mine present) faults was = same_time old new faults.1 was
faults_time old new ticket kind nth (fault.Struck number) faults was = kept_time old new faults.1.config was faults.1.log.ops faults.1.log.sealed_at faults.1.counts.history

pub quits_time : (caller : ℕ) (old new : Sight) → Quits caller old new → InTime old → InTime new
quits_time caller old new quits was = kept_time old new quits.stays.config was quits.log.ops quits.log.sealed_at quits.history

pub flushes_time : (old new : Sight) (answer : Flushed) → FlushesWith old new answer → InTime old → InTime new
flushes_time old new flushed.One flushes was = subst InTime (sym flushes.1) (record { few = was.few; synced = was.synced })
flushes_time old new flushed.Clean flushes was = same_time old new flushes.1 was
flushes_time old new flushed.Device flushes was = same_time old new flushes.1 was

-- ---- a step of a recovery

waits_time : (old new : Sight) → Waits old new → InTime old → InTime new
waits_time old new waits was = kept_time old new waits.config was waits.log.ops waits.log.sealed_at waits.counts.history

strikes_time : (test : Option (Crossing → Bool)) (before now : Option Crossings) (old new : Sight) → StrikesBy test before now old new → InTime old → InTime new
strikes_time test (Some before) (Some now) old new strikes was = waits_time old new strikes.waits was
strikes_time test (Some before) None old new strikes was = absurd strikes
strikes_time test None now old new strikes was = absurd strikes

device_time : (before : Option Crossings) (old new : Sight) → ((c : Crossings) → before ≡ Some c → RunsForFlight old c) → StepEndsByDevice before old new → InTime old → InTime new
device_time None old new runs ends was = same_time old new ends was
device_time (Some before) old new runs ends was = let of = runs before refl in answered_time before.caller of.0 reply.Device old new tt (ends of.0 of.1) was

pub if_some_at : {X : Type 0} (P : X → Type 0) (found : Option X) → IfSome found P → (x : X) → found ≡ Some x → P x
if_some_at {X = X} P found holds x is = subst (λ (o : Option X). IfSome o P) is holds

pub steps_time : (test : Option (Crossing → Bool)) (before now : Option Crossings) (old new : Sight) (answer : StepAnswer) → ((c : Crossings) → before ≡ Some c → RunsForFlight old c) → Steps test before now old new answer → InTime old → InTime new
steps_time test before now old new stepped.Idle runs steps was = same_time old new steps.1 was
steps_time test before now old new (stepped.Failed faults) runs steps was = elim steps.1 [ inl waited ↦ waits_time old new waited.1 was | inr strikes ↦ strikes_time test before now old new strikes was ]
steps_time test before now old new stepped.Resumed runs steps was = waits_time old new steps.2.waits was
steps_time test before now old new (stepped.Again faults) runs steps was = strikes_time test before now old new steps.1 was
steps_time test before now old new stepped.Device runs steps was = device_time before old new runs steps.1 was
steps_time test before now old new stepped.NoMemory runs steps was = same_time old new steps was
steps_time test before now old new stepped.Remounted runs steps was = waits_time old new steps.2.waits was
steps_time test before now old new (stepped.Replayed number) runs steps was = waits_time old new steps.1.waits was
steps_time test before now old new (stepped.Unwound ticket) runs steps was = waits_time old new steps.1.waits was
steps_time test before now old new stepped.Dropped runs steps was = waits_time old new steps.1.waits was
steps_time test before now old new stepped.Reopened runs steps was = waits_time old new steps.1.waits was
