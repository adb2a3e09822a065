-- A caller's part of a core: what stays as it is while others have the turn.
use Rattle.std.specs.Prelude.{ℕ, ◌≡◌, ◌≢◌, ◌≤◌, ◌++◌, List, Bool, true, false, Option, Some, None, nat_lt}
use Rattle.std.specs.List.{AllByRecursion}
use Rattle.mb_kinds.specs.Own.{own}
use Rattle.mb_kinds.specs.declared.entries.Entry.{Entry}
use Rattle.mb_kinds.specs.declared.entries.Stand.{Stand}
use Rattle.mb_kinds.specs.declared.faults.FaultRecord.{FaultRecord}
use Rattle.mb_core_spec.specs.State.{records_of}
use Rattle.mb_run.specs.Sights.{Limits, SightSeat, Sight, amiss_in}
use Rattle.mb_turn.specs.Passes.{ContinuesBy}

-- its entries and its fault records, in order, its calls, and what the core was begun with
pub record Part : Type 0 where
  pub entries : List Entry
  pub seat : SightSeat
  pub struck : List FaultRecord
  pub config : Limits

abbrev pub part_of : Sight → ℕ → Part
part_of sight caller = record { entries = own sight.history caller; seat = sight.seats caller; struck = records_of sight.records caller; config = sight.config }

abbrev pub stand_if : Bool → SightSeat → List FaultRecord → Option Stand
stand_if true seat struck = Some (record { begun = seat.begun; flight = seat.flight; struck = struck })
stand_if false seat struck = None

-- the stand of a declared caller
abbrev pub stand_in : Sight → ℕ → Option Stand
stand_in sight caller = stand_if (nat_lt caller sight.config.callers) (sight.seats caller) (records_of sight.records caller)

-- what one caller's event changes: entries and fault records of that caller come, no other caller's call changes, no checkpoint is taken
-- but where one is due, and none is left out behind a sync(2)
pub record MovesPart (caller : ℕ) (old new : Sight) : Type 0 where
  pub config : new.config ≡ old.config
  pub seats : (other : ℕ) → other ≢ caller → new.seats other ≡ old.seats other
  pub entries : ContinuesBy caller old.history new.history
  pub more : List FaultRecord
  pub records : new.records ≡ old.records ++ more
  pub theirs : AllByRecursion (λ (fault : FaultRecord). fault.caller ≡ caller) more
  pub seals : amiss_in new ≤ amiss_in old
