-- What the driver sees of a core.
use Rattle.std.specs.Prelude.{ℕ, ◌+◌, ◌-◌, ◌<◌, ◌≤◌, ◌≡◌, ◌≢◌, List, [], ◌∷◌, length, map, Bool, true, false, Option, Some, None, IfSome}
use Rattle.std.specs.List.{AllByRecursion}
use Rattle.mb_kinds.specs.declared.calls.Call.{Call}
use Rattle.mb_kinds.specs.declared.entries.Entry.{Entry}
use Rattle.mb_kinds.specs.declared.entries.Flight.{Flight}
use Rattle.mb_kinds.specs.declared.faults.FaultRecord.{FaultRecord}
use Rattle.mb_kinds.specs.declared.faults.Ticket.{Ticket}
use Rattle.mb_core_spec.specs.Copies.{PagesState}
use Rattle.mb_core_spec.specs.declared.config.Config.{Config}
use Rattle.mb_core_spec.specs.declared.stages.Stage.{Stage}
use Rattle.mb_core_spec.specs.declared.stages.Stage.TheVariants as stage
use Rattle.mb_core_spec.specs.declared.steps.Step.{Step}
use Rattle.mb_run.specs.Seals.{AreInTime, is_failed, late, logged_since, omitted, undue}

-- of one caller: how many calls it began, and its call in flight
pub record SightSeat : Type 0 where
  pub begun : ℕ
  pub flight : Option Flight

-- what a core was begun with; so many callers are declared
pub record Limits : Type 0 where
  pub callers : ℕ
  pub start : ℕ
  pub threshold : ℕ
  pub limit : ℕ
  pub most : ℕ

abbrev pub limits_of : Config → Limits
limits_of config = record { callers = length config.callers; start = config.start; threshold = config.threshold; limit = config.limit; most = config.most }

-- history, fault records and event trace; of each caller its seat, what its call in flight keeps, how often its ticket
-- was answered that a copy is stale (up to four times), and whether all that it keeps has the present stamps
pub record Sight : Type 0 where
  pub history : List Entry
  pub records : List FaultRecord
  pub trail : List Step
  pub seats : ℕ → SightSeat
  pub copies : ℕ → PagesState
  pub stales : ℕ → ℕ
  pub fresh : ℕ → Bool
  -- the calls that all callers began, and those in flight without an entry
  pub begun : ℕ
  pub open_calls : ℕ
  -- who has the right to commit alone
  pub floor : Option ℕ
  pub stage : Stage
  pub incarnation : ℕ
  -- how many steps the recovery has left, where no fault comes
  pub left : ℕ
  -- operations since the last checkpoint, and at how many entries that was
  pub ops : ℕ
  pub sealed_at : ℕ
  -- dirty pages, and checkpointed pages that wait to be written back
  pub current : ℕ
  pub sealed : ℕ
  pub config : Limits

-- how many calls the trace logged since its last checkpoint, and how many checkpoints it has where none was due
abbrev pub since_in : Sight → ℕ
since_in sight = logged_since sight.config.threshold sight.history sight.trail

abbrev pub undue_in : Sight → ℕ
undue_in sight = undue sight.config.threshold sight.history sight.trail

-- how many sync(2) the trace logged without a checkpoint right behind
abbrev pub omitted_in : Sight → ℕ
omitted_in sight = omitted sight.history sight.trail

-- how many entries stand behind the failed volume's answer that are not its
abbrev pub late_in : Sight → ℕ
late_in sight = late sight.history

-- how much is amiss: checkpoints taken where none was due, or left out behind a sync(2), and entries behind the failed volume's
-- answer that are not its
abbrev pub amiss_in : Sight → ℕ
amiss_in sight = undue_in sight + omitted_in sight + late_in sight

abbrev pub one_if : Bool → ℕ
one_if true = 1
one_if false = 0

-- a recovery is in progress
abbrev pub recovers : Stage → Bool
recovers stage.Running = false
recovers stage.Failed = false
recovers _ = true

-- how many steps a recovery has left, with so many callers inside and so many operations logged
abbrev pub steps_left : ℕ → ℕ → Stage → ℕ
steps_left inside ops stage.Struck = inside + ops + 4
steps_left inside ops stage.Again = ops + 4
steps_left inside ops stage.Dropped = ops + 3
steps_left inside ops stage.Remounted = ops + 2
steps_left inside ops (stage.Restored done) = ops + 1 - done
steps_left inside ops _ = 0

-- the flight of a call that enters: the one that it has, or a new one
abbrev pub flight_of : Sight → ℕ → Call → Option Flight → Flight
flight_of sight caller call (Some flight) = flight
flight_of sight caller call None = record {
  call = call;
  ordinal = (sight.seats caller).begun + 1;
  moment = sight.config.start + sight.begun + 1;
  ticket = None;
  answered = false;
}

abbrev pub is_new : Option Flight → Bool
is_new None = true
is_new (Some flight) = false

-- the flight's ticket, if it has one, is of an earlier incarnation
abbrev pub IsOld : ℕ → Option Flight → Type 0
IsOld incarnation None = Unit {0}
IsOld incarnation (Some flight) = IfSome flight.ticket (λ (t : Ticket). t.incarnation < incarnation)

-- the call in flight has that ticket; it has its entry, or not
pub record SeatHasTicket (done : Bool) (seat : SightSeat) (ticket : Ticket) : Type 0 where
  pub flight : Flight
  pub here : seat.flight ≡ Some flight
  pub mine : flight.ticket ≡ Some ticket
  pub ordinal : ticket.ordinal ≡ flight.ordinal
  pub moment : ticket.moment ≡ flight.moment
  pub answered : flight.answered ≡ done

-- it is the last ticket of the call in flight
abbrev pub IsTicketOf : SightSeat → Ticket → Type 0
IsTicketOf seat ticket = (flight : Flight) × (seat.flight ≡ Some flight) × (flight.ticket ≡ Some ticket)

-- a call is in flight that has no entry
abbrev pub IsWaiting : SightSeat → Type 0
IsWaiting seat = (flight : Flight) × (seat.flight ≡ Some flight) × (flight.answered ≡ false)

-- no number stands twice
abbrev pub AreApart : List ℕ → Type 0
AreApart [] = Unit {0}
AreApart (one ∷ numbers) = AllByRecursion (λ other. one ≢ other) numbers × AreApart numbers

-- what of a core's order the driver uses
pub record IsOrderlyInSight (sight : Sight) : Type 0 where
  -- the entries have moments that were given out, no two alike
  pub above : AllByRecursion (λ (entry : Entry). sight.config.start < entry.moment) sight.history
  pub below : AllByRecursion (λ (entry : Entry). entry.moment ≤ sight.config.start + sight.begun) sight.history
  pub apart : AreApart (map (λ (entry : Entry). entry.moment) sight.history)
  -- how many fault records there may be
  pub records : length sight.records ≤ sight.config.limit + 1
  pub limit : sight.config.limit ≤ 255
  pub callers : sight.config.callers ≤ 8
  -- a recovery has fewer steps than 2 ^ 33
  pub left : sight.left < 8589934592
  -- and after a fault a step for each caller inside, one for each operation of the log, and four more. Each step brings the
  -- end nearer, and by more than it makes the log shorter (`Rolls` of Recovering.antt): with c callers and a log of n
  -- operations once it is folded, at most c + 4 + n steps lie between a fault on a running volume and the end of its
  -- recovery, and 4 + n after a fault in a recovery
  pub struck : sight.stage ≡ stage.Struck → sight.left ≤ sight.config.callers + sight.ops + 4
  pub again : sight.stage ≡ stage.Again → sight.left ≤ sight.ops + 4
  -- who has the right to commit alone is a declared caller with a call in flight, and nothing that it gathered is stale
  pub floor : (holder : ℕ) → sight.floor ≡ Some holder → (flight : Flight) × ((sight.seats holder).flight ≡ Some flight) × (holder < sight.config.callers)
  pub fresh : (holder : ℕ) → sight.floor ≡ Some holder → sight.stage ≡ stage.Running → sight.fresh holder ≡ true
  -- without calls in flight none is open
  pub open_calls : ((caller : ℕ) → caller < sight.config.callers → (sight.seats caller).flight ≡ None) → sight.open_calls ≡ 0
  -- checkpoints are taken in time
  pub seals : AreInTime sight.config.threshold sight.ops sight.sealed_at sight.history
  -- each operation of the log is one of a call that was logged since the last checkpoint
  pub covers : sight.ops ≤ since_in sight
  -- its answer is told by a failed volume alone
  pub failures : sight.stage ≢ stage.Failed → AllByRecursion (λ (entry : Entry). is_failed entry.reply ≡ false) sight.history
  -- a failed volume has no dirty page
  pub dropped : sight.stage ≡ stage.Failed → sight.current ≡ 0
