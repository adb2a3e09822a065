-- What code and its callers read off a core in order.
use Rattle.std.specs.Prelude.{List, [], ◌∷◌, ◌++◌, ℕ, ◌+◌, ◌<◌, ◌≤◌, ◌≡◌, ◌≢◌, Bool, true, false, Option, Some, length, slice_get, slice_set}
use Rattle.mb_kinds.specs.Own.{own}
use Rattle.mb_kinds.specs.declared.calls.Call.{Call}
use Rattle.mb_kinds.specs.declared.entries.Entry.{Entry}
use Rattle.mb_kinds.specs.declared.entries.Flight.{Flight}
use Rattle.mb_kinds.specs.declared.faults.FaultRecord.{FaultRecord}
use Rattle.mb_kinds.specs.declared.faults.Ticket.{Ticket}
use Rattle.mb_kinds.specs.declared.replies.Reply.{Reply}
use Rattle.mb_tree.specs.Sessions.{with_change}
use Rattle.mb_tree.specs.Views.{IsPart}
use Rattle.mb_tree.specs.declared.seats.SessionChange.{SessionChange}
use Rattle.mb_tree.specs.declared.seats.SessionChange.TheVariants as change
use Rattle.mb_cache.specs.Stamps.{Stamps}
use Rattle.mb_core_spec.specs.Callers.{begun, insiders, one_if}
use Rattle.mb_cache.specs.Kept.{CopyList, shown}
use Rattle.mb_core_spec.specs.Copies.{AreFresh, AreTrue, HoldsFloor, LiveTables, PagesState}
use Rattle.mb_core_spec.specs.Events.{beginning, begins, entering}
use Rattle.mb_core_spec.specs.Flights.{IsFlying, IsTicket}
use Rattle.mb_core_spec.specs.Numbers.{AreInPlace, CanFollow}
use Rattle.mb_core_spec.specs.Owed.{TablesMove}
use Rattle.mb_core_spec.specs.Right.{IsOrderly}
use Rattle.mb_core_spec.specs.State.{CallerState, CoreState, records_of, stand_at}
use Rattle.mb_core_spec.specs.declared.stages.Stage.TheVariants as stage

-- fresh copies are a part of what is seen
abbrev pub FreshIsPart : Type 0
FreshIsPart = (view : ℕ → List ℕ) (stamps : Stamps) (copies pages : CopyList) → AreTrue view stamps copies → AreFresh copies stamps pages → IsPart (shown pages) view

-- nothing that the holder of the right to commit alone gathered is stale
abbrev pub FloorIsNotStale : Type 0
FloorIsNotStale = (stamps : Stamps) (live : LiveTables) (pages : PagesState) → HoldsFloor stamps live pages → AreFresh pages.blocks stamps pages.blocks

-- a ticket with four stale answers is of the call that has that right, and nothing that it gathered is stale: so the answers that a copy
-- is stale, to pages that are the call's own copies, are at most four
abbrev pub FourStalesAreAll : (F D : Type 0) → Type 0
FourStalesAreAll F D = (core : CoreState F D) → IsOrderly core → core.stage ≡ stage.Running → (caller : ℕ) (mine : CallerState) → slice_get core.callers caller ≡ Some mine → (mine.stales ≤ 4)
    × (mine.stales ≡ 4 → (core.floor ≡ Some caller) × HoldsFloor core.cache.stamps core.tables mine.pages)

-- a caller that is inside has a call in flight, with a ticket
pub record FliesInside (caller : ℕ) (running : Bool) (incarnation : ℕ) (flying : Option Flight) : Type 0 where
  pub flight : Flight
  pub flies : flying ≡ Some flight
  pub ticket : Ticket
  pub held : flight.ticket ≡ Some ticket
  pub is : IsTicket caller flight true running incarnation ticket

abbrev pub InsideFlies : Type 0
InsideFlies = (caller : ℕ) (running : Bool) (incarnation : ℕ) (answer : Option Reply) (flying : Option Flight) → IsFlying caller true running incarnation answer flying → FliesInside caller running incarnation flying

-- where one caller is inside, somebody is
abbrev pub OneIsInside : Type 0
OneIsInside = (callers : List CallerState) (at : ℕ) (mine : CallerState) → slice_get callers at ≡ Some mine → mine.inside ≡ true → 1 ≤ insiders callers

-- a fault record of one caller is none of another's, and an event of one caller leaves every other's public state
abbrev pub RecordsOfOthers : Type 0
RecordsOfOthers = (records : List FaultRecord) (fault : FaultRecord) (caller : ℕ) → fault.caller ≢ caller → records_of (records ++ fault ∷ []) caller ≡ records_of records caller

abbrev pub OthersStand : Type 0
OthersStand = (records : List FaultRecord) (callers : List CallerState) (at caller : ℕ) (new : CallerState) → caller ≢ at
    → stand_at records caller (slice_get (slice_set callers at new) caller) ≡ stand_at records caller (slice_get callers caller)

-- the current directory changes
abbrev pub is_cwd : SessionChange → Bool
is_cwd (change.Cwd ino) = true
is_cwd _ = false

-- a call that is logged moves the tables as others may see them, where the tables' stamp rises with each change of a count of open
-- files or of a current directory
abbrev pub TablesByRule : Type 0
TablesByRule = (old new : LiveTables) (at : ℕ) (made : SessionChange) (touches : Bool) → new.sessions ≡ with_change old.sessions at made → (touches ≡ false → (new.opens ≡ old.opens) × (is_cwd made ≡ false))
    → new.stamp ≡ old.stamp + one_if touches → TablesMove old new

-- a call that begins and enters at once is the two events after each other, with one store
abbrev pub EntersAtOnce : (F D : Type 0) → Type 0
EntersAtOnce F D = (core : CoreState F D) (at : ℕ) (mine : CallerState) (call : Call) (flight : Flight) (ticket : Ticket) (reserved : Option ℕ)
    → entering (beginning core at mine call) at (begins core.config.start core.callers mine call) flight ticket reserved ≡ entering core at (begins core.config.start core.callers mine call) flight ticket reserved

-- of two entries the later one can come after the earlier one: of one caller ordinals and moments rise, and moments are distinct
abbrev pub EntriesRise : (F D : Type 0) → Type 0
EntriesRise F D = (core : CoreState F D) → IsOrderly core → (one other : ℕ) (earlier later : Entry) → slice_get core.journal.history one ≡ Some earlier → slice_get core.journal.history other ≡ Some later → one < other
    → CanFollow later.caller later.ordinal later.moment earlier

-- where every call that was begun has its entry, each caller's entries have the ordinals from 1 on, each in its place
abbrev pub OrdinalsArePlaces : (F D : Type 0) → Type 0
OrdinalsArePlaces F D = (core : CoreState F D) → IsOrderly core → begun core.callers ≡ length core.journal.history
    → (caller : ℕ) → caller < length core.callers → AreInPlace (own core.journal.history caller)

-- the log of a core in order has at most 2 ^ 32 operations
abbrev pub LogIsShort : (F D : Type 0) → Type 0
LogIsShort F D = (core : CoreState F D) → IsOrderly core → length core.journal.oplog ≤ 4294967296
