-- The numbers of calls and their moments, and what the entries say of the fault records.
use Rattle.std.specs.Prelude.{List, [], ◌∷◌, ℕ, ◌+◌, ◌<◌, ◌≤◌, ◌≡◌, ◌≢◌, Bool, true, false, if◌then◌else◌, Option, Some, None, length, map, slice_get}
use Rattle.std.specs.List.{AllByRecursion, range_with_len}
use Rattle.mb_kinds.specs.Own.{own}
use Rattle.mb_kinds.specs.declared.entries.Entry.{Entry}
use Rattle.mb_kinds.specs.declared.entries.Flight.{Flight}
use Rattle.mb_kinds.specs.declared.faults.FaultRecord.{FaultRecord}
use Rattle.mb_tree.specs.SessionLaws.{IsCall}
use Rattle.mb_core_spec.specs.Callers.{EachCaller, one_if, total}
use Rattle.mb_core_spec.specs.Faults.{MayNumber, Says}
use Rattle.mb_core_spec.specs.State.{CallerState, JournalState}
use Rattle.mb_core_spec.specs.declared.config.Config.{Config}
use Rattle.mb_core_spec.specs.declared.stages.Stage.{Stage}

-- a call with that caller, ordinal and moment can come after an entry
pub record CanFollow (caller ordinal moment : ℕ) (entry : Entry) : Type 0 where
  pub apart : moment ≢ entry.moment
  pub rising : caller ≡ entry.caller → entry.moment < moment
  pub later : caller ≡ entry.caller → entry.ordinal < ordinal

-- each entry can come after every entry before it: of one caller the ordinals and moments rise, and no two moments are alike
abbrev pub AreInOrder : List Entry → Type 0
AreInOrder [] = Unit {0}
AreInOrder (entry ∷ later) = AllByRecursion (λ (next : Entry). CanFollow next.caller next.ordinal next.moment entry) later × AreInOrder later

-- a call in flight without an entry is the last that its caller began, and can come after every entry
pub record IsOpen (start bound : ℕ) (history : List Entry) (caller begun : ℕ) (flight : Flight) : Type 0 where
  pub last : flight.ordinal ≡ begun
  pub above : start < flight.moment
  pub below : flight.moment ≤ bound
  pub call : IsCall flight.call
  pub follows : AllByRecursion (CanFollow caller flight.ordinal flight.moment) history

-- the call in flight, where it has no entry
abbrev pub open_flight : Option Flight → Option Flight
open_flight None = None
open_flight (Some flight) = if flight.answered then None else Some flight

abbrev pub is_open : Option Flight → Bool
is_open None = false
is_open (Some flight) = true

-- how many calls in flight have no entry
abbrev pub open_calls : List CallerState → ℕ
open_calls callers = total (λ (mine : CallerState). one_if (is_open (open_flight mine.flight))) callers

-- how many of a caller's calls have one of these entries, or are in flight without one
abbrev pub known_calls : List Entry → CallerState → ℕ
known_calls entries mine = length entries + one_if (is_open (open_flight mine.flight))

-- entries have the ordinals from 1 on, each in its place
abbrev pub AreInPlace : List Entry → Type 0
AreInPlace entries = map (λ (entry : Entry). entry.ordinal) entries ≡ range_with_len 1 (length entries)

-- a caller's own entries: each call that it began has one of them, or is in flight without one, or quit; where none quit, each
-- entry has the ordinal of its place
pub record OwnsEntries (entries : List Entry) (mine : CallerState) : Type 0 where
  pub begun : known_calls entries mine ≤ mine.begun
  pub places : mine.begun ≡ known_calls entries mine → AreInPlace entries

-- an entry is a call of a declared caller, with a moment of those that were given out
pub record IsEntry (start bound callers : ℕ) (entry : Entry) : Type 0 where
  pub caller : entry.caller < callers
  pub above : start < entry.moment
  pub below : entry.moment ≤ bound
  pub call : IsCall entry.call

pub record IsNumbered (config : Config) (journal : JournalState) (callers : List CallerState) (now : Stage) : Type 0 where
  -- each declared caller began at most as many calls as it may
  pub callers_are : length callers ≡ length config.callers
  pub begun : EachCaller (λ caller mine. mine.begun ≤ config.most) callers
  -- the entries, and the calls in flight without one, have moments from start + 1 on, no two alike
  pub entries : AllByRecursion (IsEntry config.start (config.start + total (λ (mine : CallerState). mine.begun) callers) (length config.callers)) journal.history
  pub pairs : AreInOrder journal.history
  pub ordinals : EachCaller (λ caller mine. AllByRecursion (λ (entry : Entry). entry.caller ≡ caller → entry.ordinal ≤ mine.begun) journal.history) callers
  pub counted : EachCaller (λ caller mine. OwnsEntries (own journal.history caller) mine) callers
  pub waiting : EachCaller (λ caller mine. (flight : Flight) → open_flight mine.flight ≡ Some flight
      → IsOpen config.start (config.start + total (λ (other : CallerState). other.begun) callers) journal.history caller mine.begun flight) callers
  pub apart : (one other : ℕ) (mine next : CallerState) (f g : Flight) → slice_get callers one ≡ Some mine → slice_get callers other ≡ Some next → one ≢ other
      → open_flight mine.flight ≡ Some f → open_flight next.flight ≡ Some g → f.moment ≢ g.moment
  -- the entries and the fault records fit each other
  pub says : AllByRecursion (λ (entry : Entry). Says journal.records config.limit now entry.caller entry.ordinal entry.reply) journal.history
  pub recorded : AllByRecursion (λ (fault : FaultRecord). fault.caller < length config.callers) journal.records
  pub few : MayNumber (length journal.records) config.limit now
  -- every entry is one of a call that was begun
  pub fits : length journal.history + open_calls callers ≤ total (λ (mine : CallerState). mine.begun) callers
