-- The calls in flight: their tickets, what is taken back of them, their pins, and the right to commit alone.
use Rattle.std.specs.Prelude.{List, [], ℕ, ◌≤◌, ◌≡◌, ◌⊎◌, Bool, true, false, Option, Some, None, IsSome, slice_get, nat_eq}
use Rattle.std.specs.List.{Contains}
use Rattle.mb_kinds.specs.declared.entries.Entry.{Entry}
use Rattle.mb_kinds.specs.declared.entries.Flight.{Flight}
use Rattle.mb_kinds.specs.declared.faults.Ticket.{Ticket}
use Rattle.mb_kinds.specs.declared.replies.Reply.{Reply}
use Rattle.mb_gate.specs.declared.ulogs.Undo.{Undo}
use Rattle.mb_gate.specs.declared.ulogs.Undo.TheVariants as undo
use Rattle.mb_cache.specs.Stamps.{Stamps, stamp_of}
use Rattle.mb_core_spec.specs.Callers.{EachCaller, one_if, total}
use Rattle.mb_core_spec.specs.Copies.{HoldsFloor, LiveTables}
use Rattle.mb_core_spec.specs.State.{CallerState}
use Rattle.mb_core_spec.specs.declared.stages.Stage.{Stage}
use Rattle.mb_core_spec.specs.declared.stages.Stage.TheVariants as stage

-- the volume runs
abbrev pub runs : Stage → Bool
runs stage.Running = true
runs _ = false

-- the ticket of a call in flight: of the present incarnation exactly where the call is inside on a running volume
pub record IsTicket (caller : ℕ) (flight : Flight) (inside running : Bool) (incarnation : ℕ) (ticket : Ticket) : Type 0 where
  pub caller_is : ticket.caller ≡ caller
  pub ordinal : ticket.ordinal ≡ flight.ordinal
  pub moment : ticket.moment ≡ flight.moment
  pub before : ticket.incarnation ≤ incarnation
  pub present : ticket.incarnation ≡ incarnation → (inside ≡ true) × (running ≡ true)
  pub running_is : inside ≡ true → running ≡ true → ticket.incarnation ≡ incarnation

-- a call that did not enter has no ticket, is not inside and has no entry
abbrev pub HasTicket : ℕ → Flight → Bool → Bool → ℕ → Option Ticket → Type 0
HasTicket caller flight inside running incarnation None = (inside ≡ false) × (flight.answered ≡ false)
HasTicket caller flight inside running incarnation (Some ticket) = IsTicket caller flight inside running incarnation ticket

pub record IsInFlight (caller : ℕ) (inside running : Bool) (incarnation : ℕ) (answer : Option Reply) (flight : Flight) : Type 0 where
  pub ticket : HasTicket caller flight inside running incarnation flight.ticket
  pub logged : flight.answered ≡ true → IsSome answer

-- a caller without a call in flight is not inside
abbrev pub IsFlying : ℕ → Bool → Bool → ℕ → Option Reply → Option Flight → Type 0
IsFlying caller inside running incarnation answer None = inside ≡ false
IsFlying caller inside running incarnation answer (Some flight) = IsInFlight caller inside running incarnation answer flight

-- a call that has its entry has that entry's reply at hand
abbrev pub IsAnswered : ℕ → List Entry → CallerState → Type 0
IsAnswered caller history mine = (flight : Flight) → mine.flight ≡ Some flight → flight.answered ≡ true
    → (entry : Entry) × Contains history entry × (entry.caller ≡ caller) × (entry.ordinal ≡ flight.ordinal) × (mine.answer ≡ Some entry.reply)

-- past the unwinding nobody is inside
abbrev pub MayBeInside : Stage → Bool → Type 0
MayBeInside stage.Running inside = Unit {0}
MayBeInside stage.Struck inside = Unit {0}
MayBeInside _ inside = inside ≡ false

-- ---- what is taken back

-- who is not inside keeps nothing; the fourth answer that a copy is stale gives a ticket's call the right to commit alone
pub record IsUndoable (caller : ℕ) (floor : Option ℕ) (mine : CallerState) : Type 0 where
  pub outside : mine.inside ≡ false → (mine.undo ≡ []) × (mine.reserved ≡ None) × (mine.pages.blocks ≡ []) × (mine.pages.tables ≡ None)
  pub stales : mine.stales ≤ 4
  pub fourth : mine.stales ≡ 4 → floor ≡ Some caller

-- one for a step that pinned the block
abbrev pub is_pin : ℕ → Undo → ℕ
is_pin block undo.Entered = 0
is_pin block (undo.Pinned other) = one_if (nat_eq block other)
is_pin block (undo.Reserved fd) = 0
is_pin block undo.Floor = 0

-- a block has as many pins as the calls inside took
abbrev pub ArePins : Stamps → List CallerState → Type 0
ArePins pins callers = (block : ℕ) → stamp_of pins block ≡ total (λ (mine : CallerState). total (is_pin block) mine.undo) callers

-- ---- the right to commit alone

-- who has it is inside
abbrev pub IsFloor : Option ℕ → List CallerState → Type 0
IsFloor None callers = Unit {0}
IsFloor (Some holder) callers = (mine : CallerState) × (slice_get callers holder ≡ Some mine) × (mine.inside ≡ true)

-- nothing that its holder gathered is stale
abbrev pub FloorIsFresh : Option ℕ → Stamps → LiveTables → List CallerState → Type 0
FloorIsFresh floor stamps live callers = EachCaller (λ caller mine. floor ≡ Some caller → HoldsFloor stamps live mine.pages) callers

-- nobody has it, or this caller has
abbrev pub IsMine : ℕ → Option ℕ → Type 0
IsMine caller floor = (floor ≡ None) ⊎ (floor ≡ Some caller)
