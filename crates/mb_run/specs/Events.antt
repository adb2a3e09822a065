-- What the events of a core make of what the driver sees, by their answers.
use Rattle.std.specs.Prelude.{ℕ, ◌+◌, ◌<◌, ◌≤◌, ◌≡◌, ◌≢◌, ◌⊎◌, List, [], ◌∷◌, ◌++◌, length, min, Bool, true, false, Option, Some, None}
use Rattle.std.specs.List.{Contains}
use Rattle.mb_kinds.specs.declared.calls.Call.{Call}
use Rattle.mb_kinds.specs.declared.entries.Entry.{Entry}
use Rattle.mb_kinds.specs.declared.entries.Flight.{Flight}
use Rattle.mb_kinds.specs.declared.faults.Kind.{Kind}
use Rattle.mb_kinds.specs.declared.faults.Ticket.{Ticket}
use Rattle.mb_kinds.specs.declared.replies.Reply.{Reply}
use Rattle.mb_kinds.specs.declared.replies.Reply.TheVariants as reply
use Rattle.mb_edge.specs.Causes.{Rose}
use Rattle.mb_cache.specs.Kept.{shown}
use Rattle.mb_core_spec.specs.Copies.{PagesState, no_pages}
use Rattle.mb_core_spec.specs.Faults.{IsTwice}
use Rattle.mb_run.specs.Pages.{PagesGrow, HasTablesFor, LacksAll, PerformsOver, has}
use Rattle.mb_run.specs.Seals.{MarksTrail, is_due}
use Rattle.mb_run.specs.Sights.{SightSeat, Sight, one_if, recovers, flight_of, is_new, IsOld}
use Rattle.mb_calls.specs.declared.performing.ReadyCall.{ReadyCall}
use Rattle.mb_calls.specs.declared.performing.Performed.{Performed}
use Rattle.mb_calls.specs.declared.performing.Performed.TheVariants as performed
use Rattle.mb_cache.specs.declared.answers.Flushed.{Flushed}
use Rattle.mb_cache.specs.declared.answers.Flushed.TheVariants as flushed
use Rattle.mb_iface.specs.Needs.{IsNeed}
use Rattle.mb_core_spec.specs.declared.steps.Step.TheVariants as step
use Rattle.mb_run.specs.declared.answers.EnterAnswer.{EnterAnswer}
use Rattle.mb_run.specs.declared.answers.EnterAnswer.TheVariants as enter
use Rattle.mb_core_state.specs.declared.answers.Gathered.{Gathered}
use Rattle.mb_core_state.specs.declared.answers.Gathered.TheVariants as gathered
use Rattle.mb_core_state.specs.declared.answers.Finished.{Finished}
use Rattle.mb_core_state.specs.declared.answers.Finished.TheVariants as finished
use Rattle.mb_core_state.specs.declared.answers.Left.{Left}
use Rattle.mb_core_state.specs.declared.answers.Left.TheVariants as left
use Rattle.mb_core_state.specs.declared.answers.Fault.{Fault}
use Rattle.mb_core_state.specs.declared.answers.Fault.TheVariants as fault
use Rattle.mb_iface.specs.declared.replies.Need.{Need}
use Rattle.mb_core_spec.specs.declared.stages.Stage.{Stage}
use Rattle.mb_core_spec.specs.declared.stages.Stage.TheVariants as stage

-- what every event of one caller but a fault leaves as it is
pub record LeavesOthersAlone (caller : ℕ) (old new : Sight) : Type 0 where
  pub config : new.config ≡ old.config
  pub records : new.records ≡ old.records
  pub stage : new.stage ≡ old.stage
  pub incarnation : new.incarnation ≡ old.incarnation
  pub seats : (other : ℕ) → other ≢ caller → new.seats other ≡ old.seats other
  pub copies : (other : ℕ) → other ≢ caller → new.copies other ≡ old.copies other
  pub stales : (other : ℕ) → other ≢ caller → new.stales other ≡ old.stales other

-- no call begins or ends, and no entry is added
pub record SameCalls (old new : Sight) : Type 0 where
  pub history : new.history ≡ old.history
  pub begun : new.begun ≡ old.begun
  pub open_calls : new.open_calls ≡ old.open_calls

-- no checkpoint is taken, and no call is logged; the log of a recovery may have been folded
pub record KeepsLog (old new : Sight) : Type 0 where
  pub sealed_at : new.sealed_at ≡ old.sealed_at
  pub ops : new.ops ≤ old.ops
  pub trail : MarksTrail old.trail new.trail

-- the call is in flight and waits
pub record BeginsFlight (caller : ℕ) (flight : Flight) (old new : Sight) : Type 0 where
  pub stays : LeavesOthersAlone caller old new
  pub mine : new.seats caller ≡ record { begun = flight.ordinal; flight = Some flight }
  pub history : new.history ≡ old.history
  pub begun : new.begun ≡ old.begun + one_if (is_new (old.seats caller).flight)
  pub open_calls : new.open_calls ≡ old.open_calls + one_if (is_new (old.seats caller).flight)
  pub log : KeepsLog old new
  pub floor : new.floor ≡ old.floor

abbrev pub entry_of : ℕ → Flight → Option ℕ → Reply → Entry
entry_of caller flight pick answer = record { caller = caller; ordinal = flight.ordinal; call = flight.call; pick = pick; moment = flight.moment; reply = answer }

-- the flight, which has no entry, gets one that changes nothing and ends
pub record Answers (caller : ℕ) (flight : Flight) (answer : Reply) (old new : Sight) : Type 0 where
  pub stays : LeavesOthersAlone caller old new
  pub mine : new.seats caller ≡ record { begun = flight.ordinal; flight = None }
  pub history : new.history ≡ old.history ++ entry_of caller flight None answer ∷ []
  pub begun : new.begun ≡ old.begun + one_if (is_new (old.seats caller).flight)
  pub open_calls : new.open_calls + 1 ≡ old.open_calls + one_if (is_new (old.seats caller).flight)
  pub log : KeepsLog old new
  pub floor : (new.floor ≡ None) ⊎ (new.floor ≡ old.floor)

-- the flight, which has its entry, ends
pub record EndsFlight (caller : ℕ) (flight : Flight) (old new : Sight) : Type 0 where
  pub stays : LeavesOthersAlone caller old new
  pub was : (old.seats caller).flight ≡ Some flight
  pub answered : flight.answered ≡ true
  pub mine : new.seats caller ≡ record { begun = (old.seats caller).begun; flight = None }
  pub counts : SameCalls old new
  pub log : KeepsLog old new
  pub floor : (new.floor ≡ None) ⊎ (new.floor ≡ old.floor)

-- EIO for a restart, or the failed volume's answer
abbrev pub IsUnplain : Reply → Type 0
IsUnplain (reply.Restart first second) = Unit {0}
IsUnplain reply.Device = Unit {0}
IsUnplain (reply.Failed faults) = Unit {0}
IsUnplain _ = ⊥

-- of such answers a call that enters gets two: EIO for a restart by a volume that runs, where the recovery before it came to its end,
-- and FAILED by one that failed
abbrev pub IsAnsweredAt : Stage → Reply → Type 0
IsAnsweredAt now (reply.Restart first second) = now ≡ stage.Running
IsAnsweredAt now (reply.Failed faults) = now ≡ stage.Failed
IsAnsweredAt now _ = ⊥

-- an entry of that call has this reply
pub record IsReplyOf (history : List Entry) (caller ordinal : ℕ) (answer : Reply) : Type 0 where
  pub entry : Entry
  pub there : Contains history entry
  pub caller_is : entry.caller ≡ caller
  pub ordinal_is : entry.ordinal ≡ ordinal
  pub reply_is : entry.reply ≡ answer

pub record EntersInside (old new : Sight) (caller : ℕ) (call : Call) (ticket : Ticket) : Type 0 where
  pub begins : BeginsFlight caller (record (flight_of old caller call (old.seats caller).flight) { ticket = Some ticket }) old new
  pub runs : old.stage ≡ stage.Running
  pub own : ticket.caller ≡ caller
  pub ordinal : ticket.ordinal ≡ (flight_of old caller call (old.seats caller).flight).ordinal
  pub moment : ticket.moment ≡ (flight_of old caller call (old.seats caller).flight).moment
  pub present : ticket.incarnation ≡ old.incarnation
  pub lacks : (flight_of old caller call (old.seats caller).flight).answered ≡ false
  -- it met no two faults of its own
  pub once : (first second : ℕ) → IsTwice old.records caller (flight_of old caller call (old.seats caller).flight).ordinal first second → ⊥
  pub empty : IsOld old.incarnation (old.seats caller).flight → new.copies caller ≡ no_pages
  pub never : IsOld old.incarnation (old.seats caller).flight → new.stales caller ≡ 0
  pub fresh : IsOld old.incarnation (old.seats caller).flight → new.fresh caller ≡ true
  pub trail : IsOld old.incarnation (old.seats caller).flight → new.trail ≡ old.trail ++ step.Entered ticket ∷ []

abbrev pub EntersInSight : Sight → Sight → ℕ → Call → EnterAnswer → Type 0
EntersInSight old new caller call (enter.Done answer) =
    ((flight : Flight) × EndsFlight caller flight old new × IsReplyOf old.history caller flight.ordinal answer)
    ⊎ (((flight_of old caller call (old.seats caller).flight).answered ≡ false) × IsUnplain answer
    × Answers caller (flight_of old caller call (old.seats caller).flight) answer old new × IsAnsweredAt old.stage answer)
EntersInSight old new caller call enter.Shut =
    (recovers old.stage ≡ true) × ((flight_of old caller call (old.seats caller).flight).answered ≡ false) × BeginsFlight caller (flight_of old caller call (old.seats caller).flight) old new
EntersInSight old new caller call (enter.Inside ticket) = EntersInside old new caller call ticket
EntersInSight old new caller call enter.NoMemory = (new ≡ old) × ((flight_of old caller call (old.seats caller).flight).answered ≡ false)

-- blocks are gathered, into the flight and into the caller's pages alike
pub record Gains (caller : ℕ) (old new : Sight) (need : Need) (before now : PagesState) : Type 0 where
  pub stays : LeavesOthersAlone caller old new
  pub mine : new.seats caller ≡ old.seats caller
  pub counts : SameCalls old new
  pub log : KeepsLog old new
  pub floor : new.floor ≡ old.floor
  pub same : old.copies caller ≡ before → new.copies caller ≡ now
  pub stales : new.stales caller ≡ old.stales caller
  pub fresh : old.fresh caller ≡ true → new.fresh caller ≡ true
  pub got : has now need.first ≡ true
  pub keeps : (block : ℕ) → has before block ≡ true → has now block ≡ true
  pub grows : LacksAll before need → PagesGrow before now
  pub tables : HasTablesFor old.config.callers before → HasTablesFor old.config.callers now
  pub trail : new.trail ≡ old.trail

abbrev pub GathersInSight : Sight → Sight → Ticket → Need → PagesState → PagesState → Gathered → Type 0
GathersInSight old new ticket need before now (gathered.Skip mine was) = (ticket.incarnation ≢ old.incarnation) × (new ≡ old) × (now ≡ before)
GathersInSight old new ticket need before now gathered.Device =
    (ticket.incarnation ≡ old.incarnation) × ((flight : Flight) → (old.seats ticket.caller).flight ≡ Some flight → Answers ticket.caller flight reply.Device old new)
    × (old.stage ≡ stage.Running)
GathersInSight old new ticket need before now gathered.NoMemory = (new ≡ old) × (now ≡ before)
GathersInSight old new ticket need before now gathered.Done = (ticket.incarnation ≡ old.incarnation) × Gains ticket.caller old new need before now

-- the pins and the copies are given back
pub record IsStale (caller : ℕ) (old new : Sight) (pages : PagesState) : Type 0 where
  pub stays : LeavesOthersAlone caller old new
  pub mine : new.seats caller ≡ old.seats caller
  pub counts : SameCalls old new
  pub sealed_at : new.sealed_at ≡ old.sealed_at
  pub ops : new.ops ≤ old.ops
  pub ticket : Ticket
  pub block : ℕ
  pub own : ticket.caller ≡ caller
  pub trail : new.trail ≡ old.trail ++ step.Stale ticket block ∷ []
  pub was : (old.floor ≡ None) ⊎ (old.floor ≡ Some caller)
  pub floor : (new.floor ≡ None) ⊎ (new.floor ≡ Some caller)
  pub empty : new.copies caller ≡ no_pages
  pub fresh : new.fresh caller ≡ true
  pub few : old.copies caller ≡ pages → old.stales caller < 4
  pub spoiled : old.copies caller ≡ pages → old.fresh caller ≡ false
  pub stales : new.stales caller ≡ min (old.stales caller + 1) 4

pub record Logs (caller : ℕ) (old new : Sight) (ticket : Ticket) : Type 0 where
  pub stays : LeavesOthersAlone caller old new
  pub flight : Flight
  pub was : (old.seats caller).flight ≡ Some flight
  pub mine : new.seats caller ≡ record { begun = flight.ordinal; flight = Some (record flight { answered = true }) }
  pub pick : Option ℕ
  pub answer : Reply
  pub history : new.history ≡ old.history ++ entry_of caller flight pick answer ∷ []
  pub begun : new.begun ≡ old.begun
  pub open_calls : new.open_calls + 1 ≡ old.open_calls
  pub sealed_at : new.sealed_at ≡ old.sealed_at
  pub ops : new.ops ≤ old.ops + 1
  pub floor : new.floor ≡ None
  pub trail : new.trail ≡ old.trail ++ step.Logged ticket ∷ []

-- a checkpoint is taken
abbrev pub sealed : Sight → Sight → Sight
sealed old new = record old {
  trail = old.trail ++ step.Sealed (length old.history) ∷ [];
  ops = 0;
  sealed_at = length old.history;
  current = 0;
  sealed = new.sealed;
}

abbrev pub SealsIf : Bool → Sight → Sight → Type 0
SealsIf true old new = new ≡ sealed old new
SealsIf false old new = new ≡ old

-- the call is logged, and the checkpoint that is then due is taken
pub record LogsInTime (caller : ℕ) (old new : Sight) (ticket : Ticket) (made : Call) : Type 0 where
  pub logged : Sight
  pub logs : Logs caller old logged ticket
  pub seals : SealsIf (is_due logged.config.threshold logged.ops made) logged new

abbrev pub FinishesInSight : Sight → Sight → Ticket → PagesState → Call → Finished → Type 0
FinishesInSight old new ticket pages made (finished.Skip mine was) = (ticket.incarnation ≢ old.incarnation) × (new ≡ old)
FinishesInSight old new ticket pages made (finished.Busy holder) = (ticket.incarnation ≡ old.incarnation) × (old.floor ≡ Some holder.caller) × (holder.caller ≢ ticket.caller) × (new ≡ old)
FinishesInSight old new ticket pages made (finished.Stale block) = (ticket.incarnation ≡ old.incarnation) × IsStale ticket.caller old new pages
FinishesInSight old new ticket pages made finished.NoMemory = (ticket.incarnation ≡ old.incarnation) × (new ≡ old)
FinishesInSight old new ticket pages made finished.Logged =
    (ticket.incarnation ≡ old.incarnation) × ((old.floor ≡ None) ⊎ (old.floor ≡ Some ticket.caller)) × LogsInTime ticket.caller old new ticket made
    × (old.stage ≡ stage.Running)

abbrev pub LeavesWith : Sight → Sight → Ticket → Left → Type 0
LeavesWith old new ticket (left.Skip mine was) = (ticket.incarnation ≢ old.incarnation) × (new ≡ old)
LeavesWith old new ticket (left.Left answer) = (ticket.incarnation ≡ old.incarnation) × ((flight : Flight) × EndsFlight ticket.caller flight old new × IsReplyOf old.history ticket.caller flight.ordinal answer)

-- with a call that left one checkpointed page was written back: one fewer waits, or none waited; or as many wait on, and the
-- disk's count of faults rose
abbrev pub WritesBehind : ℕ → ℕ → Sight → Sight → Left → Type 0
WritesBehind before now old new (left.Skip mine was) = Unit {0}
WritesBehind before now old new (left.Left answer) =
    (old.sealed ≡ new.sealed + 1) ⊎ (((old.sealed ≡ 0) × (new.sealed ≡ 0)) ⊎ ((new.sealed ≡ old.sealed) × Rose before now))

-- what a call is performed over that finishes, and what it came to
abbrev pub IsReadyAt : Sight → Ticket → PagesState → ReadyCall → Type 0
IsReadyAt sight ticket pages ready = (flight : Flight) → (sight.seats ticket.caller).flight ≡ Some flight
    → PerformsOver pages ticket.caller flight.call flight.moment (performed.Ready ready)

-- the call in flight is that one
abbrev pub IsCallOf : SightSeat → Call → Type 0
IsCallOf seat made = (flight : Flight) → seat.flight ≡ Some flight → flight.call ≡ made

-- what is asked for is not there yet
abbrev pub AsksForLacking : PagesState → Performed → Type 0
AsksForLacking pages (performed.Need need) = IsNeed (shown pages.blocks) need
AsksForLacking pages _ = Unit {0}

-- a call is struck
pub record StrikesCall (old new : Sight) (ticket : Ticket) (kind : Kind) (nth : ℕ) : Type 0 where
  pub config : new.config ≡ old.config
  pub records : new.records ≡ old.records ++ record { caller = ticket.caller; ordinal = ticket.ordinal; kind = kind; nth = nth } ∷ []
  pub stage : new.stage ≡ stage.Struck
  pub incarnation : new.incarnation ≡ old.incarnation + 1
  pub seats : (other : ℕ) → new.seats other ≡ old.seats other
  pub counts : SameCalls old new
  pub log : KeepsLog old new
  pub floor : new.floor ≡ old.floor

abbrev pub FaultsWith : Sight → Sight → Ticket → Kind → ℕ → Fault → Type 0
FaultsWith old new ticket kind nth (fault.Skip mine was) = (ticket.incarnation ≢ old.incarnation) × (new ≡ old)
FaultsWith old new ticket kind nth (fault.Struck number) = (ticket.incarnation ≡ old.incarnation) × StrikesCall old new ticket kind nth

-- ---- what no caller does

-- a checkpointed page is written back
abbrev pub FlushesWith : Sight → Sight → Flushed → Type 0
FlushesWith old new flushed.One = (old.sealed ≡ new.sealed + 1) × (new ≡ record old { sealed = new.sealed })
FlushesWith old new flushed.Clean = (old.sealed ≡ 0) × (new ≡ old)
FlushesWith old new flushed.Device = (old.sealed ≢ 0) × (new ≡ old)

-- a call in flight without an entry ends and gets none
pub record Quits (caller : ℕ) (old new : Sight) : Type 0 where
  pub stays : LeavesOthersAlone caller old new
  pub mine : (new.seats caller).flight ≡ None
  pub history : new.history ≡ old.history
  pub log : KeepsLog old new
  pub trail : new.trail ≡ old.trail
