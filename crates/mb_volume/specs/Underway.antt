-- A call under way: how it stands, by what its caller knows from one hold of the turn to the next.
use Rattle.std.specs.Prelude.{ℕ, ◌+◌, ◌<◌, ◌≤◌, ◌≡◌, ◌≢◌, ◌++◌, ◌∷◌, List, [], length, filter, nat_eq, Bool, true, false, Option, Some, None, IfSome}
use Rattle.std.specs.List.{AllByRecursion, Contains}
use Rattle.mb_edge.specs.Crossings.{next_nth}
use Rattle.mb_edge.specs.declared.crossings.Crossing.{Crossing}
use Rattle.mb_edge.specs.declared.crossings.Crossings.{Crossings}
use Rattle.mb_kinds.specs.declared.calls.Call.{Call}
use Rattle.mb_kinds.specs.declared.entries.Entry.{Entry}
use Rattle.mb_kinds.specs.declared.entries.Flight.{Flight}
use Rattle.mb_kinds.specs.declared.faults.FaultRecord.{FaultRecord}
use Rattle.mb_kinds.specs.declared.faults.Kind.TheVariants.{Leave}
use Rattle.mb_kinds.specs.declared.faults.Ticket.{Ticket}
use Rattle.mb_kinds.specs.declared.replies.Reply.{Reply}
use Rattle.mb_kinds.specs.declared.replies.Reply.TheVariants as reply
use Rattle.mb_calls.specs.declared.performing.Performed.TheVariants as performed
use Rattle.mb_core_spec.specs.Copies.{PagesState}
use Rattle.mb_run.specs.Pages.{PagesGrowBy, HasTablesFor, PerformsOver, has}
use Rattle.mb_run.specs.Seals.{is_plain}
use Rattle.mb_run.specs.Served.{AreSixCounts, AreSound, IsCounted, counted}
use Rattle.mb_run.specs.Sights.{SeatHasTicket, IsWaiting, SightSeat, Sight}
use Rattle.mb_run.specs.Tallies.{is_logged}
use Rattle.mb_run.specs.declared.answers.StepAnswer.{StepAnswer}
use Rattle.mb_run.specs.declared.answers.StepAnswer.TheVariants as stepped
use Rattle.mb_run.specs.declared.runner.At.{At}
use Rattle.mb_run.specs.declared.runner.At.TheVariants as at
use Rattle.mb_volume.specs.Called.{IsAnsweredWith, MetOnce, SaysOfLimit, Suffers, own_faults}
use Rattle.mb_volume.specs.Parts.{Part, part_of}
use Rattle.mb_volume.specs.declared.attempt.Attempt.{Attempt}
use Rattle.mb_volume.specs.declared.events.Came.{Came}
use Rattle.mb_volume.specs.declared.events.Came.TheVariants as came
use Rattle.mb_volume.specs.declared.events.Event.{Event}
use Rattle.mb_volume.specs.declared.events.Event.TheVariants as event

-- one entry came: that call's
pub record AddsEntry (caller ordinal : ℕ) (call : Call) (from now : List Entry) : Type 0 where
  pub entry : Entry
  pub whole : now ≡ from ++ entry ∷ []
  pub caller_is : entry.caller ≡ caller
  pub ordinal_is : entry.ordinal ≡ ordinal
  pub call_is : entry.call ≡ call

abbrev pub AddsEntryIf : Bool → ℕ → ℕ → Call → List Entry → List Entry → Type 0
AddsEntryIf true caller ordinal call from now = AddsEntry caller ordinal call from now
AddsEntryIf false caller ordinal call from now = now ≡ from

-- the fault records of the call so far: each at a crossing that was counted
pub record StruckSoFar (test : Option (Crossing → Bool)) (crossings : Crossings) (from now : List FaultRecord) : Type 0 where
  pub more : List FaultRecord
  pub whole : now ≡ from ++ more
  pub theirs : AllByRecursion (λ (fault : FaultRecord). (fault.caller ≡ crossings.caller) × (fault.ordinal ≡ crossings.ordinal)) more
  pub counted : AllByRecursion (IsCounted crossings) more
  pub sound : AreSound test more

-- the call in flight is this one
pub record FlightIsCall (caller : ℕ) (call : Call) (from now : Part) (flight : Flight) : Type 0 where
  pub call_is : flight.call ≡ call
  pub ordinal : flight.ordinal ≡ from.seat.begun + 1
  pub begun : now.seat.begun ≡ from.seat.begun + 1
  pub entered : AddsEntryIf flight.answered caller (from.seat.begun + 1) call from.entries now.entries

-- the call did not begin, or is in flight
abbrev pub IsBegunIf : ℕ → Call → Part → Part → Option Flight → Type 0
IsBegunIf caller call from now None = (now.seat.begun ≡ from.seat.begun) × (now.entries ≡ from.entries) × (now.struck ≡ from.struck)
IsBegunIf caller call from now (Some flight) = FlightIsCall caller call from now flight

-- the ticket that the caller has
abbrev pub PlaceStands : ℕ → SightSeat → At → Type 0
PlaceStands caller seat at.Outside = Unit {0}
PlaceStands caller seat (at.Inside ticket) = SeatHasTicket false seat ticket × (ticket.caller ≡ caller)
PlaceStands caller seat (at.Logged ticket) = SeatHasTicket true seat ticket × (ticket.caller ≡ caller)

-- the call in flight has its entry
abbrev pub FlightHasEntry : Option Flight → Type 0
FlightHasEntry None = ⊥
FlightHasEntry (Some flight) = flight.answered ≡ true

-- a call that went in, or has its entry, met one fault of its own at most
abbrev pub HasMetOnce : ℕ → Part → At → Type 0
HasMetOnce ordinal now at.Outside = FlightHasEntry now.seat.flight → MetOnce ordinal now.struck
HasMetOnce ordinal now _ = MetOnce ordinal now.struck

-- from the part as it was before the call, and as it is now
pub record IsCallUnderway (call : Call) (test : Option (Crossing → Bool)) (from now : Part) (attempt : Attempt) : Type 0 where
  pub config : now.config ≡ from.config
  pub within : attempt.crossings.caller < from.config.callers
  pub most : from.seat.begun < from.config.most
  pub ordinal : attempt.crossings.ordinal ≡ from.seat.begun + 1
  pub counts : AreSixCounts attempt.crossings
  pub begun : IsBegunIf attempt.crossings.caller call from now now.seat.flight
  pub stands : PlaceStands attempt.crossings.caller now.seat attempt.at
  pub tables : HasTablesFor now.config.callers attempt.pages
  pub struck : StruckSoFar test attempt.crossings from.struck now.struck
  pub once : HasMetOnce attempt.crossings.ordinal now attempt.at

abbrev pub IsOn : Call → Part → Attempt → Type 0
IsOn call now attempt = (test : Option (Crossing → Bool)) × (from : Part) × IsCallUnderway call test from now attempt

-- a call that is given up met two faults of its own
abbrev pub SaysOfTwice : ℕ → List FaultRecord → Reply → Type 0
SaysOfTwice ordinal struck (reply.Restart first second) = 2 ≤ length (own_faults (filter (λ (fault : FaultRecord). nat_eq fault.ordinal ordinal) struck))
SaysOfTwice ordinal struck _ = Unit {0}

-- each entry has a greater ordinal than those before it
abbrev pub OrdinalsRise : List Entry → Type 0
OrdinalsRise [] = Unit {0}
OrdinalsRise (entry ∷ later) = AllByRecursion (λ (next : Entry). entry.ordinal < next.ordinal) later × OrdinalsRise later

-- an entry of that call has this reply
pub record IsReplyIn (entries : List Entry) (ordinal : ℕ) (answer : Reply) : Type 0 where
  pub entry : Entry
  pub there : Contains entries entry
  pub ordinal_is : entry.ordinal ≡ ordinal
  pub reply_is : entry.reply ≡ answer

-- the call was answered, as the core has it
pub record HasItsAnswer (call : Call) (test : Option (Crossing → Bool)) (caller : ℕ) (from now : Part) (answer : Reply) : Type 0 where
  pub config : now.config ≡ from.config
  pub seat : now.seat ≡ record { begun = from.seat.begun + 1; flight = None }
  pub entry : AddsEntry caller (from.seat.begun + 1) call from.entries now.entries
  pub reply : IsReplyIn now.entries (from.seat.begun + 1) answer
  pub suffers : Suffers test caller from now
  pub once : is_plain answer ≡ true → MetOnce (from.seat.begun + 1) now.struck

-- it has no entry
abbrev pub FlightLacksEntry : Option Flight → Type 0
FlightLacksEntry None = Unit {0}
FlightLacksEntry (Some flight) = flight.answered ≡ false

-- a call in flight without an entry was ended, where it began
pub record IsLeftOff (ordinal : ℕ) (old now : Part) : Type 0 where
  pub entries : now.entries ≡ old.entries
  pub struck : now.struck ≡ old.struck
  pub config : now.config ≡ old.config
  pub begun : now.seat.begun ≡ old.seat.begun
  pub free : old.seat.begun ≡ ordinal → now.seat.flight ≡ None
  pub still : old.seat.begun ≢ ordinal → now.seat.flight ≡ old.seat.flight

-- what a step of a recovery comes to for the call that ran it
abbrev pub rolled : StepAnswer → Came
rolled stepped.Idle = came.On
rolled (stepped.Failed faults) = came.On
rolled stepped.Resumed = came.On
rolled stepped.Device = came.Answered reply.Device
rolled stepped.NoMemory = came.NoMemory
rolled _ = came.Shut

-- what a hold of the turn came to
abbrev pub Comes : Call → Option (Crossing → Bool) → ℕ → Part → Part → Attempt → Came → Type 0
Comes call test caller from now attempt (came.Answered reply) = HasItsAnswer call test caller from now reply
Comes call test caller from now attempt (came.Inside ticket) = IsCallUnderway call test from now attempt × (attempt.at ≡ at.Inside ticket)
Comes call test caller from now attempt came.On = IsCallUnderway call test from now attempt
Comes call test caller from now attempt came.Shut = IsCallUnderway call test from now attempt × IsWaiting now.seat
Comes call test caller from now attempt came.Busy = IsCallUnderway call test from now attempt
Comes call test caller from now attempt came.NoMemory = IsCallUnderway call test from now attempt × FlightLacksEntry now.seat.flight

-- whatever it was before the call
abbrev pub Goes : Call → Option (Crossing → Bool) → Part → Part → Attempt → Attempt → Came → Type 0
Goes call test old new before now came = (from : Part) → IsCallUnderway call test from old before → Comes call test before.crossings.caller from new now came

-- a hold of the turn makes of the core's answer what the caller is told
abbrev pub Brings : Call → Option (Crossing → Bool) → ℕ → Part → Part → Attempt → Came → Type 0
Brings call test caller from now attempt (came.Answered reply) = IsAnsweredWith call test caller from now reply
Brings call test caller from now attempt (came.Inside ticket) = IsCallUnderway call test from now attempt × (attempt.at ≡ at.Inside ticket)
Brings call test caller from now attempt came.On = IsCallUnderway call test from now attempt
Brings call test caller from now attempt came.Shut = IsCallUnderway call test from now attempt × IsWaiting now.seat
Brings call test caller from now attempt came.Busy = IsCallUnderway call test from now attempt
Brings call test caller from now attempt came.NoMemory = IsCallUnderway call test from now attempt × FlightLacksEntry now.seat.flight

abbrev pub LeadsCallOn : Call → Option (Crossing → Bool) → Part → Part → Attempt → Attempt → Came → Type 0
LeadsCallOn call test old new before now came = (from : Part) → IsCallUnderway call test from old before → Brings call test before.crossings.caller from new now came

-- what a core in order says of a caller's entries: their ordinals rise, and the replies fit the limit and the fault records
pub record IsTold (now : Part) : Type 0 where
  pub rises : OrdinalsRise now.entries
  pub limit : AllByRecursion (λ (entry : Entry). SaysOfLimit now.config.limit entry.reply) now.entries
  pub twice : AllByRecursion (λ (entry : Entry). SaysOfTwice entry.ordinal now.struck entry.reply) now.entries

-- the same by sights of a core, of the caller whose attempt it is
abbrev pub GoesSeen : Call → Option (Crossing → Bool) → Sight → Sight → Attempt → Attempt → Came → Type 0
GoesSeen call test old new before now came = Goes call test (part_of old before.crossings.caller) (part_of new before.crossings.caller) before now came

-- the place has that ticket
abbrev pub PlaceHoldsTicket : At → Ticket → Type 0
PlaceHoldsTicket at.Outside ticket = ⊥
PlaceHoldsTicket (at.Inside mine) ticket = mine ≡ ticket
PlaceHoldsTicket (at.Logged mine) ticket = mine ≡ ticket

-- the crossing is the next one of its kind, and the hook faulted there; a call that has its entry is where it leaves
pub record IsMetNext (test : Option (Crossing → Bool)) (struck : Option Crossing) (attempt : Attempt) (crossing : Crossing) (passed : Crossings) : Type 0 where
  pub next : crossing ≡ record { caller = attempt.crossings.caller; ordinal = attempt.crossings.ordinal; kind = crossing.kind; nth = next_nth attempt.crossings.counts crossing.kind }
  pub passed_is : passed ≡ counted attempt.crossings crossing.kind
  pub struck_is : struck ≡ Some crossing
  pub holds : IfSome test (λ fires. fires crossing ≡ true)
  pub leaves : is_logged attempt.at ≡ 1 → crossing.kind ≡ Leave

-- when an event may come
abbrev pub MayCome : Call → Option (Crossing → Bool) → Option Crossing → SightSeat → Attempt → Event → Type 0
MayCome call test struck seat attempt event.Enter = attempt.at ≡ at.Outside
MayCome call test struck seat attempt (event.Gather ticket need) = (attempt.at ≡ at.Inside ticket) × (need.first < 262144) × (1 ≤ need.count) × (need.count ≤ 32)
MayCome call test struck seat attempt (event.Finish ticket ready) =
    (attempt.at ≡ at.Inside ticket) × (has attempt.pages 0 ≡ true) × PerformsOver attempt.pages ticket.caller call ticket.moment (performed.Ready ready)
MayCome call test struck seat attempt (event.Leave ticket) = attempt.at ≡ at.Logged ticket
MayCome call test struck seat attempt (event.Fault ticket crossing passed) = PlaceHoldsTicket attempt.at ticket × IsMetNext test struck attempt crossing passed
MayCome call test struck seat attempt event.Recover = IsWaiting seat

-- what the caller has after an event: where it gathered, nothing, or more, if it had none of the blocks
abbrev pub GrowsAfter : Event → PagesState → PagesState → Type 0
GrowsAfter (event.Gather ticket need) before now = PagesGrowBy need before now
GrowsAfter _ before now = Unit {0}
