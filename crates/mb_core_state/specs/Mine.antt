-- What is said of a caller's state in a core, and of its call in flight.
use Rattle.std.specs.Prelude.{ℕ, ◌≡◌, Option, Some, slice_get}
use Rattle.mb_kinds.specs.declared.entries.Flight.{Flight}
use Rattle.mb_kinds.specs.declared.replies.Reply.{Reply}
use Rattle.mb_cache.specs.Stamps.{Stamps}
use Rattle.mb_core_spec.specs.Events.{GivesBack, ended, with_room}
use Rattle.mb_core_spec.specs.State.{CallerState, CoreState}

-- it holds of the caller's state, where there is one
abbrev pub OfMine : {F D : Type 0} → CoreState F D → ℕ → (CallerState → Type 0) → Type 0
OfMine core caller says = (mine : CallerState) → slice_get core.callers caller ≡ Some mine → says mine

-- the caller has a state, and it holds of that
abbrev pub HasMine : {F D : Type 0} → CoreState F D → ℕ → (CallerState → Type 0) → Type 0
HasMine core caller says = (mine : CallerState) × (slice_get core.callers caller ≡ Some mine) × says mine

-- it holds of the caller's state and of its call in flight, where there is one
abbrev pub OfFlight : {F D : Type 0} → CoreState F D → ℕ → (CallerState → Flight → Type 0) → Type 0
OfFlight core caller says = (mine : CallerState) (flight : Flight) → slice_get core.callers caller ≡ Some mine → mine.flight ≡ Some flight → says mine flight

-- an event, by the pins that it leaves: it gives back what the caller's call took
abbrev pub GivesBackBy : {F D : Type 0} → (Stamps → CoreState F D) → CoreState F D → CoreState F D → CallerState → Type 0
GivesBackBy event old new mine = (new ≡ with_room (event new.cache.pins) new) × GivesBack old.cache.pins new.cache.pins mine.undo

-- the caller's call ends with that answer, and gives back what it took
abbrev pub EndsWith : {F D : Type 0} → Option Reply → CoreState F D → CoreState F D → ℕ → CallerState → Type 0
EndsWith answer old new caller mine = (mine.answer ≡ answer) × (new ≡ with_room (ended old caller mine new.cache.pins) new) × GivesBack old.cache.pins new.cache.pins mine.undo
