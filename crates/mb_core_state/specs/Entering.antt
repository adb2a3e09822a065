-- What a call that enters is answered, and what it then made of the core.
use Rattle.std.specs.Prelude.{List, ℕ, ◌+◌, ◌<◌, ◌≤◌, ◌≡◌, ◌≢◌, ◌⊎◌, Bool, true, false, if◌then◌else◌, [], Option, None, Some, IsSome, option_and_then, length, slice_get}
use Rattle.mb_kinds.specs.declared.calls.Call.{Call}
use Rattle.mb_kinds.specs.declared.calls.Call.TheVariants as call
use Rattle.mb_kinds.specs.declared.entries.Flight.{Flight}
use Rattle.mb_kinds.specs.declared.faults.Ticket.{Ticket}
use Rattle.mb_kinds.specs.declared.replies.Reply.{Reply}
use Rattle.mb_kinds.specs.declared.replies.Reply.TheVariants as reply
use Rattle.mb_tree.specs.Sessions.{free_descriptor}
use Rattle.mb_tree.specs.declared.seats.Seat.{Seat}
use Rattle.mb_journal.specs.Faults.{TellsTwice}
use Rattle.mb_journal.specs.Room.{KeepsRoom}
use Rattle.mb_core_spec.specs.Callers.{begun}
use Rattle.mb_core_spec.specs.Events.{GivesBack, Leaves, answered_by, beginning, begins, ended, entering, first_flight, with_room}
use Rattle.mb_core_spec.specs.State.{CallerState, CoreState, JournalRoom}
use Rattle.mb_core_spec.specs.declared.stages.Stage.{Stage}
use Rattle.mb_core_spec.specs.declared.stages.Stage.TheVariants as stage
use Rattle.mb_core_state.specs.Mine.{OfMine}
use Rattle.mb_core_state.specs.declared.answers.Enter.{Enter}
use Rattle.mb_core_state.specs.declared.answers.Enter.TheVariants as enter

-- ---- the call in flight: where none is, the given one begins

abbrev pub begun_if : ℕ → List CallerState → CallerState → Call → Option Flight → CallerState
begun_if start callers mine given None = begins start callers mine given
begun_if start callers mine given (Some flight) = mine

abbrev pub flight_if : ℕ → List CallerState → CallerState → Call → Option Flight → Flight
flight_if start callers mine given None = first_flight given (mine.begun + 1) (start + (begun callers + 1))
flight_if start callers mine given (Some flight) = flight

-- the caller with its call in flight
abbrev pub with_call : {F D : Type 0} → CoreState F D → CallerState → Call → CallerState
with_call core mine given = begun_if core.config.start core.callers mine given mine.flight

-- that call
abbrev pub flight_of : {F D : Type 0} → CoreState F D → CallerState → Call → Flight
flight_of core mine given = flight_if core.config.start core.callers mine given mine.flight

abbrev pub waiting_if : {F D : Type 0} → CoreState F D → ℕ → CallerState → Call → Option Flight → CoreState F D
waiting_if core caller mine given None = beginning core caller mine given
waiting_if core caller mine given (Some flight) = core

-- the core in which it waits
abbrev pub waiting : {F D : Type 0} → CoreState F D → ℕ → CallerState → Call → CoreState F D
waiting core caller mine given = waiting_if core caller mine given mine.flight

-- its ticket of the present incarnation
abbrev pub ticket_for : {F D : Type 0} → CoreState F D → ℕ → Flight → Ticket
ticket_for core caller flight = record { caller = caller; ordinal = flight.ordinal; incarnation = core.incarnation; moment = flight.moment }

-- ---- the descriptor that it reserves

abbrev pub reserves : Call → Bool
reserves (call.Open path how) = true
reserves (call.Creat path mode) = true
reserves (call.Dup fd) = true
reserves _ = false

-- an `open`, a `creat` and a `dup` reserve the lowest free descriptor, where there is one
abbrev pub reserved_by : List Seat → ℕ → Call → Option ℕ
reserved_by seats caller given = if reserves given then option_and_then free_descriptor (slice_get seats caller) else None

-- ---- its entry and its ticket

-- the call in flight has its entry
abbrev pub HasEntry : Option Flight → Type 0
HasEntry None = ⊥
HasEntry (Some flight) = flight.answered ≡ true

-- it has none, or no call is in flight
abbrev pub LacksEntry : Option Flight → Type 0
LacksEntry None = Unit {0}
LacksEntry (Some flight) = flight.answered ≡ false

abbrev pub IsOther : ℕ → Option Ticket → Type 0
IsOther incarnation None = Unit {0}
IsOther incarnation (Some ticket) = ticket.incarnation ≢ incarnation

-- no call is in flight with a ticket of that incarnation
abbrev pub LacksTicket : ℕ → Option Flight → Type 0
LacksTicket incarnation None = Unit {0}
LacksTicket incarnation (Some flight) = IsOther incarnation flight.ticket

-- the call in flight has this ticket, of that incarnation
pub record HasTicketNow (incarnation : ℕ) (flying : Option Flight) (ticket : Ticket) : Type 0 where
  pub flight : Flight
  pub flies : flying ≡ Some flight
  pub held : flight.ticket ≡ Some ticket
  pub present : ticket.incarnation ≡ incarnation

-- what a core in order knows of a caller that enters: its numbers fit, a call that has its entry has the reply at hand, and who
-- has no ticket of the present incarnation keeps nothing
pub record MayComeIn {F D : Type 0} (core : CoreState F D) (mine : CallerState) : Type 0 where
  pub few : mine.flight ≡ None → mine.begun < 4294967295
  pub moments : mine.flight ≡ None → core.config.start + begun core.callers < 4294967295
  pub answer : HasEntry mine.flight → IsSome mine.answer
  pub empty : core.stage ≡ stage.Running → LacksTicket core.incarnation mine.flight → mine.undo ≡ []

-- ---- the answers

-- a recovery is in progress
abbrev pub IsShut : Stage → Type 0
IsShut stage.Running = ⊥
IsShut stage.Failed = ⊥
IsShut _ = Unit {0}

-- the call in flight has its entry, whose reply is handed out
pub record IsHandedOut {F D : Type 0} (old new : CoreState F D) (caller : ℕ) (mine : CallerState) (answer : Reply) : Type 0 where
  pub has : HasEntry mine.flight
  pub answer_is : mine.answer ≡ Some answer
  pub event : new ≡ with_room (ended old caller mine new.cache.pins) new
  pub back : GivesBack old.cache.pins new.cache.pins mine.undo
  pub room : new.journal.room ≡ old.journal.room

-- the volume failed, at so many faults; or the call met two faults of its own, of which these are the first
abbrev pub IsCause : {F D : Type 0} → CoreState F D → ℕ → ℕ → Reply → Type 0
IsCause core caller ordinal (reply.Failed faults) = (core.stage ≡ stage.Failed) × (faults ≡ length core.journal.records)
IsCause core caller ordinal (reply.Restart first second) = (core.stage ≡ stage.Running) × TellsTwice core.journal.records caller ordinal (Some (first, second))
IsCause core caller ordinal _ = ⊥

-- the first two faults of the call that a caller has in flight, or would begin
abbrev pub TellsOwnFaults : {F D : Type 0} → CoreState F D → ℕ → Option (ℕ × ℕ) → Type 0
TellsOwnFaults core caller found = (mine : CallerState) (given : Call) → slice_get core.callers caller ≡ Some mine
    → TellsTwice core.journal.records caller (flight_of core mine given).ordinal found

-- there is room for the entries of all calls in flight, and none is lost
pub record HasAnswerRoom (old left : JournalRoom) : Type 0 where
  pub kept : KeepsRoom old left
  pub history : 8 ≤ left.history

-- the call ends with an entry that is not the model's step, for which there was room
pub record IsGivenUp {F D : Type 0} (old new : CoreState F D) (caller : ℕ) (mine : CallerState) (given : Call) (answer : Reply) : Type 0 where
  pub waits : JournalRoom
  pub space : HasAnswerRoom old.journal.room waits
  pub left : Leaves waits new.journal.room 0 1
  pub event : new ≡ with_room (answered_by (waiting old caller mine given) caller (with_call old mine given) (flight_of old mine given) answer new.cache.pins) new
  pub back : GivesBack old.cache.pins new.cache.pins mine.undo

-- a call goes inside, with a new ticket
pub record GoesInside {F D : Type 0} (old new : CoreState F D) (caller : ℕ) (state : CallerState) (flight : Flight) (ticket : Ticket) (reserved : Option ℕ) : Type 0 where
  pub ticket_is : ticket ≡ ticket_for old caller flight
  pub event : new ≡ with_room (entering old caller state flight ticket reserved) new

-- a call that begins goes inside
abbrev pub BeginsInside : {F D : Type 0} → CoreState F D → CoreState F D → ℕ → CallerState → Call → Ticket → Option ℕ → Type 0
BeginsInside old new caller mine given ticket reserved = GoesInside old new caller (begins old.config.start old.callers mine given) (flight_if old.config.start old.callers mine given None) ticket reserved

-- the call in flight goes inside, or else one that begins
abbrev pub ComesInside : {F D : Type 0} → CoreState F D → CoreState F D → ℕ → CallerState → Call → Ticket → Option ℕ → Type 0
ComesInside old new caller mine given ticket reserved = GoesInside old new caller (with_call old mine given) (flight_of old mine given) ticket reserved

-- what is left of the room when it went inside: its own entry, a fault, and the steps of all who leave or are unwound
pub record HasEnteredRoom (old left : JournalRoom) : Type 0 where
  pub entries : old.history ≤ left.history
  pub history : 8 ≤ left.history
  pub records : 1 ≤ left.records
  pub trail : 11 ≤ left.trail

-- the call goes inside: the one in flight, or one that begins
pub record GoesIn {F D : Type 0} (old new : CoreState F D) (caller : ℕ) (mine : CallerState) (given : Call) (ticket : Ticket) : Type 0 where
  pub inside : ComesInside old new caller mine given ticket (reserved_by old.tables.sessions caller given)
  pub room : HasEnteredRoom old.journal.room new.journal.room

-- by the answer, in the order in which the answers come; a call that has its ticket of the present incarnation stays inside with it
abbrev pub Enters : {F D : Type 0} → CoreState F D → CoreState F D → ℕ → CallerState → Call → Enter → Type 0
Enters old new caller mine given (enter.Done answer) =
    IsHandedOut old new caller mine answer ⊎ (LacksEntry mine.flight × IsCause old caller (flight_of old mine given).ordinal answer × IsGivenUp old new caller mine given answer)
Enters old new caller mine given enter.Shut = LacksEntry mine.flight × IsShut old.stage × (new ≡ with_room (waiting old caller mine given) new) × HasAnswerRoom old.journal.room new.journal.room
Enters old new caller mine given (enter.Inside ticket) = LacksEntry mine.flight × (old.stage ≡ stage.Running) × TellsTwice old.journal.records caller (flight_of old mine given).ordinal None
    × ((HasTicketNow old.incarnation mine.flight ticket × (new ≡ old)) ⊎ (LacksTicket old.incarnation mine.flight × GoesIn old new caller mine given ticket))
Enters old new caller mine given enter.NoMemory = LacksEntry mine.flight × (new ≡ with_room old new) × KeepsRoom old.journal.room new.journal.room

-- of whichever state the caller has
abbrev pub EntersFor : {F D : Type 0} → CoreState F D → CoreState F D → ℕ → Call → Enter → Type 0
EntersFor old new caller given result = OfMine old caller (λ mine. Enters old new caller mine given result)
