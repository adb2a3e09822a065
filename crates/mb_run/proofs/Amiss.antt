-- No event takes a checkpoint but where one is due, none leaves one out behind a sync(2), and none adds another answer behind the
-- failed volume's.
use Rattle.std.proofs.Common.{◌≡◌, ◌⊎◌, inl, inr, [], ◌∷◌, ◌++◌, ℕ, ◌≤◌, Bool, true, false, None, ap, sym, ◌∙◌, arith}
use Rattle.mb_core_spec.specs.Copies.{PagesState}
use Rattle.mb_core_spec.specs.declared.stages.Stage.TheVariants as stage
use Rattle.mb_core_state.specs.declared.answers.Fault.{Fault}
use Rattle.mb_core_state.specs.declared.answers.Fault.TheVariants as fault
use Rattle.mb_core_state.specs.declared.answers.Finished.{Finished}
use Rattle.mb_core_state.specs.declared.answers.Finished.TheVariants as finished
use Rattle.mb_core_state.specs.declared.answers.Gathered.{Gathered}
use Rattle.mb_core_state.specs.declared.answers.Gathered.TheVariants as gathered
use Rattle.mb_core_state.specs.declared.answers.Left.{Left}
use Rattle.mb_core_state.specs.declared.answers.Left.TheVariants as left
use Rattle.mb_iface.specs.declared.replies.Need.{Need}
use Rattle.mb_kinds.specs.declared.calls.Call.{Call}
use Rattle.mb_kinds.specs.declared.entries.Entry.{Entry}
use Rattle.mb_kinds.specs.declared.entries.Flight.{Flight}
use Rattle.mb_kinds.specs.declared.faults.Kind.{Kind}
use Rattle.mb_kinds.specs.declared.faults.Ticket.{Ticket}
use Rattle.mb_kinds.specs.declared.replies.Reply.{Reply}
use Rattle.mb_kinds.specs.declared.replies.Reply.TheVariants as reply
use Rattle.mb_run.specs.Events.{Answers, EntersInSight, FaultsWith, FinishesInSight, GathersInSight, IsCallOf, KeepsLog, LeavesWith, LogsInTime, Quits, SealsIf, entry_of}
use Rattle.mb_run.specs.Recovering.{Waits}
use Rattle.mb_run.specs.Seals.{is_due}
use Rattle.mb_run.specs.Sights.{IsOrderlyInSight, SeatHasTicket, Sight, amiss_in, flight_of, late_in, omitted_in, since_in, undue_in}
use Rattle.mb_run.specs.declared.answers.EnterAnswer.{EnterAnswer}
use Rattle.mb_run.specs.declared.answers.EnterAnswer.TheVariants as enter
use Rattle.mb_run.proofs.Late.{MayTell, entry_late, runs_not_failed, still_late, told_entering}
use Rattle.mb_run.proofs.Timely.{logs_prompt, more_omitted, stale_prompt, still_omitted}
use Rattle.mb_run.proofs.Undue.{entry_undue, in_time_undue, stale_undue_in, still_undue}

all_low : (old new : Sight) → undue_in new ≤ undue_in old → omitted_in new ≤ omitted_in old → late_in new ≤ late_in old → amiss_in new ≤ amiss_in old
all_low old new undue omitted late = omega (arith, undue, omitted, late)

-- ---- what an event does to the trace

pub same_amiss : (old new : Sight) → new ≡ old → amiss_in new ≤ amiss_in old
same_amiss old new same = let is = ap amiss_in same in omega (arith, is)

module _ (old new : Sight) (config : new.config ≡ old.config) (log : KeepsLog old new) where
  pub still_amiss : new.history ≡ old.history → amiss_in new ≤ amiss_in old
  still_amiss same = all_low old new (still_undue old new config log same) (still_omitted old new log same) (still_late old new same)

  pub entry_amiss : (entry : Entry) → IsOrderlyInSight old → MayTell old.stage entry.reply → new.history ≡ old.history ++ entry ∷ [] → amiss_in new ≤ amiss_in old
  entry_amiss entry right tells grown =
      all_low old new (entry_undue old new config entry log grown) (more_omitted old new (entry ∷ []) log grown) (entry_late old new entry right tells grown)

-- ---- the events

answers_amiss : (caller : ℕ) (flight : Flight) (answer : Reply) (old new : Sight) → IsOrderlyInSight old → MayTell old.stage answer → Answers caller flight answer old new → amiss_in new ≤ amiss_in old
answers_amiss caller flight answer old new right tells answers = entry_amiss old new answers.stays.config answers.log (entry_of caller flight None answer) right tells answers.history

pub enters_amiss : (old new : Sight) (caller : ℕ) (call : Call) (answer : EnterAnswer) → IsOrderlyInSight old → EntersInSight old new caller call answer → amiss_in new ≤ amiss_in old
enters_amiss old new caller call (enter.Done answer) right (inl left) = still_amiss old new left.1.stays.config left.1.log left.1.counts.history
enters_amiss old new caller call (enter.Done answer) right (inr ended) = answers_amiss caller (flight_of old caller call (old.seats caller).flight) answer old new right (told_entering old.stage answer ended.1 ended.3) ended.2
enters_amiss old new caller call enter.Shut right shut = still_amiss old new shut.2.stays.config shut.2.log shut.2.history
enters_amiss old new caller call (enter.Inside ticket) right inside = still_amiss old new inside.begins.stays.config inside.begins.log inside.begins.history
enters_amiss old new caller call enter.NoMemory right none = same_amiss old new none.0

pub gathers_amiss : (old new : Sight) (ticket : Ticket) (need : Need) (before now : PagesState) (answer : Gathered) → IsOrderlyInSight old → SeatHasTicket false (old.seats ticket.caller) ticket → GathersInSight old new ticket need before now answer
    → amiss_in new ≤ amiss_in old
gathers_amiss old new ticket need before now (gathered.Skip mine present) right has gathers = same_amiss old new gathers.1
gathers_amiss old new ticket need before now gathered.Device right has gathers =
    answers_amiss ticket.caller has.flight reply.Device old new right (inr (runs_not_failed old.stage gathers.2)) (gathers.1 has.flight has.here)
gathers_amiss old new ticket need before now gathered.NoMemory right has gathers = same_amiss old new gathers.0
gathers_amiss old new ticket need before now gathered.Done right has gathers = still_amiss old new gathers.1.stays.config gathers.1.log gathers.1.counts.history

-- a call is logged on a volume that runs
sealed_late : (due : Bool) (logged new : Sight) → SealsIf due logged new → late_in new ≤ late_in logged
sealed_late true logged new seals = still_late logged new (ap (λ (s : Sight). s.history) seals)
sealed_late false logged new seals = still_late logged new (ap (λ (s : Sight). s.history) seals)

logs_late : (old new : Sight) (ticket : Ticket) (call : Call) → IsOrderlyInSight old → old.stage ≡ stage.Running → LogsInTime ticket.caller old new ticket call → late_in new ≤ late_in old
logs_late old new ticket call right runs of =
    let before = entry_late old of.logged (entry_of ticket.caller of.logs.flight of.logs.pick of.logs.answer) right (inr (runs_not_failed old.stage runs)) of.logs.history in
    let after = sealed_late (is_due of.logged.config.threshold of.logged.ops call) of.logged new of.seals in
    omega (arith, before, after)

pub finishes_amiss : (old new : Sight) (ticket : Ticket) (pages : PagesState) (call : Call) (answer : Finished) → SeatHasTicket false (old.seats ticket.caller) ticket → IsCallOf (old.seats ticket.caller) call → IsOrderlyInSight old
    → FinishesInSight old new ticket pages call answer → amiss_in new ≤ amiss_in old
finishes_amiss old new ticket pages call (finished.Skip mine present) has of right finishes = same_amiss old new finishes.1
finishes_amiss old new ticket pages call (finished.Busy holder) has of right finishes = same_amiss old new finishes.3
finishes_amiss old new ticket pages call (finished.Stale block) has of right finishes =
    all_low old new (stale_undue_in ticket.caller old new pages finishes.1) (stale_prompt ticket.caller old new pages finishes.1) (still_late old new finishes.1.counts.history)
finishes_amiss old new ticket pages call finished.NoMemory has of right finishes = same_amiss old new finishes.1
finishes_amiss old new ticket pages call finished.Logged has of right finishes =
    all_low old new (in_time_undue old new ticket call has of right.covers finishes.2) (logs_prompt old new ticket call has of right.covers finishes.2) (logs_late old new ticket call right finishes.3 finishes.2)

pub leaves_amiss : (old new : Sight) (ticket : Ticket) (answer : Left) → LeavesWith old new ticket answer → amiss_in new ≤ amiss_in old
leaves_amiss old new ticket (left.Skip mine present) leaves = same_amiss old new leaves.1
leaves_amiss old new ticket (left.Left answer) leaves = still_amiss old new leaves.1.1.stays.config leaves.1.1.log leaves.1.1.counts.history

pub faults_amiss : (old new : Sight) (ticket : Ticket) (kind : Kind) (nth : ℕ) (answer : Fault) → FaultsWith old new ticket kind nth answer → amiss_in new ≤ amiss_in old
faults_amiss old new ticket kind nth (fault.Skip mine present) faults = same_amiss old new faults.1
faults_amiss old new ticket kind nth (fault.Struck number) faults = still_amiss old new faults.1.config faults.1.log faults.1.counts.history

pub quits_amiss : (caller : ℕ) (old new : Sight) → Quits caller old new → amiss_in new ≤ amiss_in old
quits_amiss caller old new quits = still_amiss old new quits.stays.config quits.log quits.history

-- a step of a recovery
pub waits_amiss : (old new : Sight) → Waits old new → amiss_in new ≤ amiss_in old
waits_amiss old new waits = still_amiss old new waits.config waits.log waits.counts.history
