-- What the answers of the code come to for the events of the core.
use Rattle.std.specs.Prelude.{ℕ, ◌-◌, ◌^◌, ◌<◌, ◌≤◌, ◌≡◌, false, Option, None, Some, slice_get}
use Rattle.mb_kinds.specs.declared.calls.Call.{Call}
use Rattle.mb_kinds.specs.declared.entries.Flight.{Flight}
use Rattle.mb_kinds.specs.declared.faults.Ticket.{Ticket}
use Rattle.mb_tree.specs.SessionLaws.{IsCall}
use Rattle.mb_kinds.specs.Image.{Image}
use Rattle.mb_oplog.specs.declared.oplogs.Logged.{Logged}
use Rattle.mb_cache.specs.Stamps.{stamp_of}
use Rattle.mb_core_spec.specs.Conditions.{MayEnter, MayReplay, MayStart}
use Rattle.mb_core_spec.specs.Events.{beginning, begins, entering, roomy, with_room}
use Rattle.mb_core_spec.specs.Numbers.{open_calls}
use Rattle.mb_core_spec.specs.Recovery.{replaying}
use Rattle.mb_core_spec.specs.State.{CallerState, CoreState, JournalRoom}
use Rattle.mb_core_spec.specs.declared.stages.Stage.TheVariants as stage
use Rattle.mb_core_state.specs.Entering.{GoesIn, flight_if, reserved_by}
use Rattle.mb_core_state.specs.Redoing.{IsReplayed}

-- an operation that was done again is the core's event, and what that event asks, as long as no stamp is the greatest
pub record IsReplayEvent {F D : Type 0} (told : D → Option Image) (faults : D → ℕ) (old new : CoreState F D) (done : ℕ) (logged : Logged) : Type 0 where
  pub event : new ≡ with_room (replaying old new.cache new.tables.opens done) new
  pub may : MayReplay told faults old new.cache new.tables.opens done logged new.journal.room

abbrev pub OperationReplayed : (F D : Type 0) → (D → Option Image) → (D → ℕ) → Type 0
OperationReplayed F D told faults = (old new : CoreState F D) (done : ℕ) (logged : Logged) → old.stage ≡ stage.Restored done → slice_get old.journal.oplog done ≡ Some logged → IsReplayed told old new done logged
    → ((block : ℕ) → stamp_of old.cache.stamps block < 2 ^ 64 - 1) → told new.cache.disk ≡ told old.cache.disk → faults old.cache.disk ≤ faults new.cache.disk → old.journal.room.history ≤ new.journal.room.history
    → IsReplayEvent told faults old new done logged

-- ---- a call enters

-- a call in flight that went inside is the core's event, with what that event asks
pub record IsEnterEvent {F D : Type 0} (old new : CoreState F D) (caller : ℕ) (mine : CallerState) (flight : Flight) (ticket : Ticket) (reserved : Option ℕ) : Type 0 where
  pub event : new ≡ with_room (entering old caller mine flight ticket reserved) new
  pub may : MayEnter old caller mine flight ticket new.journal.room

abbrev pub CallEnteredAgain : (F D : Type 0) → Type 0
CallEnteredAgain F D = (old new : CoreState F D) (caller : ℕ) (mine : CallerState) (flight : Flight) (given : Call) (ticket : Ticket) → slice_get old.callers caller ≡ Some mine → mine.flight ≡ Some flight → flight.answered ≡ false
    → mine.inside ≡ false → old.stage ≡ stage.Running → GoesIn old new caller mine given ticket → IsEnterEvent old new caller mine flight ticket (reserved_by old.tables.sessions caller given)

-- a new call that went inside is two events, one after the other: it began, and it entered
pub record IsBeginAndEnter {F D : Type 0} (old new : CoreState F D) (caller : ℕ) (mine : CallerState) (given : Call) (ticket : Ticket) : Type 0 where
  pub room : JournalRoom
  pub begins_so : MayStart old caller mine given room
  pub enters_so : IsEnterEvent (roomy (beginning old caller mine given) room) new caller (begins old.config.start old.callers mine given) (flight_if old.config.start old.callers mine given None) ticket
      (reserved_by old.tables.sessions caller given)

abbrev pub CallEnteredNew : (F D : Type 0) → Type 0
CallEnteredNew F D = (old new : CoreState F D) (caller : ℕ) (mine : CallerState) (given : Call) (ticket : Ticket) → slice_get old.callers caller ≡ Some mine → mine.flight ≡ None → mine.inside ≡ false → old.stage ≡ stage.Running → IsCall given
    → mine.begun < old.config.most → open_calls old.callers < 8 → GoesIn old new caller mine given ticket → IsBeginAndEnter old new caller mine given ticket
