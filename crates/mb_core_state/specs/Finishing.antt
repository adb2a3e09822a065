-- What a call that finishes is answered, and what it then made of the core.
use Rattle.std.specs.Prelude.{Bool, List, ℕ, ◌≡◌, ◌≢◌, true, Option, None, Some, slice_get, slice_set}
use Rattle.mb_kinds.specs.declared.entries.Entry.{Entry}
use Rattle.mb_kinds.specs.declared.entries.Flight.{Flight}
use Rattle.mb_kinds.specs.declared.faults.Ticket.{Ticket}
use Rattle.mb_kinds.specs.declared.replies.Reply.{Reply}
use Rattle.mb_kinds.specs.Changed.{ChangeList}
use Rattle.mb_tree.specs.declared.operations.FsOp.{FsOp}
use Rattle.mb_tree.specs.declared.seats.SessionChange.{SessionChange}
use Rattle.mb_cache.specs.Pages.{installed}
use Rattle.mb_cache.specs.Stamps.{Stamps, raised_by}
use Rattle.mb_callers.specs.Stale.{AllFresh, IsLeastStale}
use Rattle.mb_tables.specs.Follows.{tables_after}
use Rattle.mb_core_spec.specs.Copies.{PagesState}
use Rattle.mb_core_spec.specs.Events.{GivesBack, booked, entry_for, logged_op, logging, staling, taken_back, with_room, without}
use Rattle.mb_core_spec.specs.Flights.{IsMine}
use Rattle.mb_core_spec.specs.State.{CallerState, CoreState}
use Rattle.mb_core_spec.specs.declared.ready.Ready.{Ready}
use Rattle.mb_core_state.specs.Answers.{IsPresent, IsSkipped}
use Rattle.mb_core_state.specs.Mine.{GivesBackBy, OfFlight, OfMine}
use Rattle.mb_core_state.specs.declared.answers.Finished.{Finished}
use Rattle.mb_core_state.specs.declared.answers.Finished.TheVariants as finished

-- a caller's call in flight has this ticket
pub record HasTicketOf (callers : List CallerState) (caller : ℕ) (ticket : Ticket) : Type 0 where
  pub mine : CallerState
  pub here : slice_get callers caller ≡ Some mine
  pub flight : Flight
  pub flies : mine.flight ≡ Some flight
  pub held : flight.ticket ≡ Some ticket

-- who has the right to commit alone has a call in flight with a ticket
abbrev pub HolderFlies : Option ℕ → List CallerState → Type 0
HolderFlies None callers = Unit {0}
HolderFlies (Some holder) callers = (ticket : Ticket) × HasTicketOf callers holder ticket

-- another caller's call, with this ticket, has the right to commit alone
pub record IsBusy {F D : Type 0} (core : CoreState F D) (caller : ℕ) (holder : Ticket) : Type 0 where
  pub at : ℕ
  pub other : at ≢ caller
  pub floor : core.floor ≡ Some at
  pub ticket : HasTicketOf core.callers at holder

-- the changes are installed, and the tables follow
abbrev pub putting : {F D : Type 0} → CoreState F D → ℕ → Option FsOp → Option ℕ → ChangeList → SessionChange → CoreState F D
putting core caller op pick changes session = record core {
  cache = record core.cache { current = installed core.cache.current changes; stamps = raised_by core.cache.stamps changes };
  tables = tables_after core.tables caller op pick session;
}

-- the call has its entry, and what it took is given back
abbrev pub booking : {F D : Type 0} → CoreState F D → ℕ → CallerState → Flight → Ticket → Option FsOp → Entry → Reply → Stamps → CoreState F D
booking core caller mine flight ticket op entry given pins = record core {
  cache = record core.cache { pins = pins };
  journal = booked core.journal entry (logged_op op entry.pick) ticket;
  callers = slice_set core.callers caller (record (taken_back mine) { flight = Some (record flight { answered = true }); answer = Some given });
  floor = without caller core.floor;
}

-- a call that is logged: the core's event, and what the cache and the tables are after it
pub record IsLogged {F D : Type 0} (old new : CoreState F D) (caller : ℕ) (mine : CallerState) (flight : Flight) (ticket : Ticket) (ready : Ready) : Type 0 where
  pub event : new ≡ with_room (logging old new caller mine flight ticket ready) new
  pub back : GivesBack old.cache.pins new.cache.pins mine.undo
  pub current : new.cache.current ≡ installed old.cache.current ready.changes
  pub stamps : new.cache.stamps ≡ raised_by old.cache.stamps ready.changes
  pub tables : new.tables ≡ tables_after old.tables caller ready.op ready.pick ready.session

-- by the answer, in the order in which the answers come
abbrev pub Finishes : {F D : Type 0} → CoreState F D → CoreState F D → Ticket → CallerState → Flight → PagesState → Ready → Finished → Type 0
Finishes old new ticket mine flight pages ready (finished.Skip was now) = IsSkipped old new ticket was now
Finishes old new ticket mine flight pages ready (finished.Busy holder) = IsPresent old ticket × IsBusy old ticket.caller holder × (new ≡ old)
Finishes old new ticket mine flight pages ready (finished.Stale block) = IsPresent old ticket × IsMine ticket.caller old.floor
    × IsLeastStale ready.shared ticket.caller old.cache.stamps old.tables mine.pages pages block
    × (new ≡ with_room (staling old ticket.caller mine ticket block new.cache.pins) new) × GivesBack old.cache.pins new.cache.pins mine.undo
Finishes old new ticket mine flight pages ready finished.NoMemory = IsPresent old ticket × IsMine ticket.caller old.floor × (new ≡ with_room old new)
Finishes old new ticket mine flight pages ready finished.Logged = IsPresent old ticket × IsMine ticket.caller old.floor
    × AllFresh ready.shared ticket.caller old.cache.stamps old.tables mine.pages pages × IsLogged old new ticket.caller mine flight ticket ready

-- of whichever state and call its caller has
abbrev pub FinishesFor : {F D : Type 0} → CoreState F D → CoreState F D → Ticket → PagesState → Ready → Finished → Type 0
FinishesFor old new ticket pages ready result = OfFlight old ticket.caller (λ mine flight. Finishes old new ticket mine flight pages ready result)

-- ---- its parts

-- a call's pages are fresh
abbrev pub AreFreshIn : {F D : Type 0} → CoreState F D → Bool → ℕ → CallerState → PagesState → Type 0
AreFreshIn core shared caller mine pages = AllFresh shared caller core.cache.stamps core.tables mine.pages pages

-- a block is the least stale one of them
abbrev pub IsLeastStaleIn : {F D : Type 0} → CoreState F D → Bool → ℕ → CallerState → PagesState → ℕ → Type 0
IsLeastStaleIn core shared caller mine pages block = IsLeastStale shared caller core.cache.stamps core.tables mine.pages pages block

-- the entry that a caller's call gets
abbrev pub IsEntryFor : {F D : Type 0} → CoreState F D → ℕ → Option ℕ → Reply → Entry → Type 0
IsEntryFor core caller pick given entry = OfFlight core caller (λ mine flight. entry ≡ entry_for caller flight pick given)

-- a call has its entry, and gives back what it took
abbrev pub Books : {F D : Type 0} → CoreState F D → CoreState F D → Ticket → Option FsOp → Entry → Reply → Type 0
Books old new ticket op entry given = OfFlight old ticket.caller (λ mine flight. GivesBackBy (booking old ticket.caller mine flight ticket op entry given) old new mine)

-- a call gathers anew, and gives back what it took
abbrev pub GathersAnew : {F D : Type 0} → CoreState F D → CoreState F D → Ticket → ℕ → Type 0
GathersAnew old new ticket block = OfMine old ticket.caller (λ mine. GivesBackBy (staling old ticket.caller mine ticket block) old new mine)
