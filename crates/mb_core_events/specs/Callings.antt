-- What a caller knows when it makes an event, and what an answer is.
use Rattle.std.specs.Prelude.{ℕ, ◌≡◌, ◌<◌, ◌≤◌, ◌⊎◌, true, false, None, Some, nat_lt, slice_get, length}
use Rattle.mb_kinds.specs.declared.calls.Call.{Call}
use Rattle.mb_kinds.specs.declared.entries.Flight.{Flight}
use Rattle.mb_kinds.specs.declared.faults.Ticket.{Ticket}
use Rattle.mb_tree.specs.Sessions.{HasDescriptorInRange}
use Rattle.mb_iface.specs.declared.replies.Need.{Need}
use Rattle.mb_core_spec.specs.Callers.{EachCaller, insiders}
use Rattle.mb_core_spec.specs.Conditions.{IsInside}
use Rattle.mb_cache.specs.Kept.{shown}
use Rattle.mb_core_spec.specs.Copies.{PagesState, TableCopy}
use Rattle.mb_core_spec.specs.Events.{GivesBack, with_room}
use Rattle.mb_core_spec.specs.Owed.{IsPlain}
use Rattle.mb_core_spec.specs.Performed.{IsReadyFor}
use Rattle.mb_core_spec.specs.Recovery.{unwinding}
use Rattle.mb_core_spec.specs.State.{CallerState, CoreState}
use Rattle.mb_core_spec.specs.declared.ready.Ready.{Ready}
use Rattle.mb_core_spec.specs.declared.stages.Stage.{Stage}
use Rattle.mb_core_spec.specs.declared.stages.Stage.TheVariants as stage
use Rattle.mb_core_state.specs.Answers.{phase_of}
use Rattle.mb_core_state.specs.Finishing.{HasTicketOf}
use Rattle.mb_core_state.specs.declared.answers.Phase.{Phase}
use Rattle.mb_core_state.specs.declared.answers.Phase.TheVariants as phase
use Rattle.mb_core_events.specs.declared.states.State.{State}
use Rattle.mb_core_events.specs.declared.states.State.TheVariants as state

-- ---- a call in flight

-- the ticket is the one in its caller's flight
abbrev pub HoldsTicket : {F D : Type 0} → CoreState F D → Ticket → Type 0
HoldsTicket core ticket = HasTicketOf core.callers ticket.caller ticket

-- and the call has no entry yet
abbrev pub IsUnanswered : {F D : Type 0} → CoreState F D → Ticket → Type 0
IsUnanswered core ticket = (of : HoldsTicket core ticket) × (of.flight.answered ≡ false)

-- and the call has its entry
abbrev pub CallHasEntry : {F D : Type 0} → CoreState F D → Ticket → Type 0
CallHasEntry core ticket = (of : HoldsTicket core ticket) × (of.flight.answered ≡ true)

-- a caller's call is in flight
pub record HasCall {F D : Type 0} (core : CoreState F D) (caller : ℕ) : Type 0 where
  pub mine : CallerState
  pub here : slice_get core.callers caller ≡ Some mine
  pub flight : Flight
  pub flies : mine.flight ≡ Some flight

-- and it has no entry
abbrev pub HasOpenCall : {F D : Type 0} → CoreState F D → ℕ → Type 0
HasOpenCall core caller = (of : HasCall core caller) × (of.flight.answered ≡ false)

-- a declared caller enters with its call in flight, or with a new one, where it began fewer than it may
pub record MayCall {F D : Type 0} (core : CoreState F D) (caller : ℕ) (call : Call) : Type 0 where
  pub declared : caller < length core.config.callers
  pub same : (mine : CallerState) (flight : Flight) → slice_get core.callers caller ≡ Some mine → mine.flight ≡ Some flight → flight.call ≡ call
  pub few : (mine : CallerState) → slice_get core.callers caller ≡ Some mine → mine.flight ≡ None → mine.begun < core.config.most

-- what a call may gather: block 0, which stands for the tables, or up to 32 blocks
pub record IsAsked (need : Need) : Type 0 where
  pub first : need.first < 262144
  pub some : 1 ≤ need.count
  pub count : need.count ≤ 32

-- a call without its entry was performed over its pages, which have the tables: what it came to is the model's step over
-- every volume of which the pages are a part
pub record MayFinish {F D : Type 0} (core : CoreState F D) (ticket : Ticket) (pages : PagesState) (ready : Ready) : Type 0 where
  pub of : HoldsTicket core ticket
  pub unanswered : of.flight.answered ≡ false
  pub given : TableCopy
  pub tables : pages.tables ≡ Some given
  pub ready_for : IsReadyFor (shown pages.blocks) given.sessions given.opens ticket.caller of.flight.call of.flight.moment ready
  pub plain : IsPlain ready.reply
  pub session : HasDescriptorInRange ready.session

-- ---- a recovery

-- the next step of a recovery
abbrev pub phase_now : {F D : Type 0} → CoreState F D → Phase
phase_now core = phase_of core.stage (nat_lt 0 (insiders core.callers)) (length core.journal.oplog)

-- a recovery meets a fault at its start of the file system, or at an operation that is done again
abbrev pub MayMeetFault : Phase → Type 0
MayMeetFault now = (now ≡ phase.Remount) ⊎ ((number : ℕ) × (now ≡ phase.Replay number))

-- an operation is done again next
abbrev pub MayReplayNow : Phase → Type 0
MayReplayNow now = (number : ℕ) × (now ≡ phase.Replay number)

-- the call with this ticket, of the least caller inside, was unwound
pub record Unwinds {F D : Type 0} (old new : CoreState F D) (ticket : Ticket) : Type 0 where
  pub mine : CallerState
  pub flight : Flight
  pub within : IsInside old ticket.caller mine flight ticket
  pub least : EachCaller (λ other one. one.inside ≡ true → ticket.caller ≤ other) old.callers
  pub event : new ≡ with_room (unwinding old ticket.caller mine ticket new.cache.pins) new
  pub back : GivesBack old.cache.pins new.cache.pins mine.undo

-- whether the volume runs
abbrev pub state_of : Stage → State
state_of stage.Running = state.Running
state_of stage.Failed = state.Failed
state_of _ = state.Recovering
