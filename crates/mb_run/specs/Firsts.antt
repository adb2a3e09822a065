-- The moments of the callers' first calls, and what steps leave of them.
use Rattle.std.specs.Prelude.{ℕ, ◌+◌, ◌<◌, ◌≤◌, ◌≡◌, ◌≢◌, ◌⊎◌, List, Option, Some, slice_get}
use Rattle.mb_kinds.specs.declared.entries.Entry.{Entry}
use Rattle.mb_kinds.specs.declared.entries.Flight.{Flight}
use Rattle.mb_run.specs.Sights.{SightSeat, Sight}

-- the first call of a caller has its entry, with that moment
pub record IsFirstEntry (history : List Entry) (caller moment : ℕ) : Type 0 where
  pub place : ℕ
  pub entry : Entry
  pub here : slice_get history place ≡ Some entry
  pub own : entry.caller ≡ caller
  pub ordinal : entry.ordinal ≡ 1
  pub given : entry.moment ≡ moment

-- a first call is in flight, with that moment
pub record IsFirstFlight (held : Option Flight) (moment : ℕ) : Type 0 where
  pub flight : Flight
  pub here : held ≡ Some flight
  pub ordinal : flight.ordinal ≡ 1
  pub given : flight.moment ≡ moment

-- the first call of a caller was begun, at that moment
abbrev pub HasFirst : Sight → ℕ → ℕ → Type 0
HasFirst sight caller moment = IsFirstEntry sight.history caller moment ⊎ IsFirstFlight (sight.seats caller).flight moment

-- a declared caller, which had begun no call, did so after all calls that had been begun before
pub record BeginsFirst (old : Sight) (begun : ℕ) (seat : SightSeat) (caller moment : ℕ) : Type 0 where
  pub within : caller < old.config.callers
  pub none : (old.seats caller).begun ≡ 0
  pub some : seat.begun ≢ 0
  pub above : old.config.start + old.begun < moment
  pub below : moment ≤ old.config.start + begun

-- what was begun stays so, and a first moment that is new is above all that were given out
pub record KeepsFirsts (old new : Sight) : Type 0 where
  pub begun : old.begun ≤ new.begun
  pub none : (caller : ℕ) → (new.seats caller).begun ≡ 0 → (old.seats caller).begun ≡ 0
  pub firsts : (caller moment : ℕ) → HasFirst new caller moment → HasFirst old caller moment ⊎ BeginsFirst old new.begun (new.seats caller) caller moment
