-- How the event trace and the core fit each other.
use Rattle.std.specs.Prelude.{List, ℕ, ◌<◌, ◌≤◌, ◌≡◌, Bool, true, Option, Some, None, length, slice_get}
use Rattle.mb_kinds.specs.declared.entries.Flight.{Flight}
use Rattle.mb_kinds.specs.declared.faults.Ticket.{Ticket}
use Rattle.mb_core_spec.specs.Callers.{EachCaller}
use Rattle.mb_core_spec.specs.State.{CallerState, JournalState}
use Rattle.mb_core_spec.specs.Trail.{Mode, Place, Watch, folds, logged_keys, next, plain_keys, watch_from}
use Rattle.mb_core_spec.specs.Trail.Mode.{Runs, Struck, Again, Dropped, Remounted, Restored, Failed}
use Rattle.mb_core_spec.specs.declared.stages.Stage.{Stage}
use Rattle.mb_core_spec.specs.declared.stages.Stage.TheVariants as stage

-- the trace tells where the volume stands; after a fault each caller that is inside may still be unwound
abbrev pub IsMode : Stage → Mode → List CallerState → Type 0
IsMode stage.Running found callers = found ≡ Runs
IsMode stage.Struck found callers = (low : ℕ) × (found ≡ Struck low) × EachCaller (λ caller mine. mine.inside ≡ true → low ≤ caller) callers
IsMode stage.Again found callers = found ≡ Again
IsMode stage.Dropped found callers = found ≡ Dropped
IsMode stage.Remounted found callers = found ≡ Remounted
IsMode (stage.Restored done) found callers = found ≡ Restored done
IsMode stage.Failed found callers = found ≡ Failed

-- the trace's last ticket of a caller is that of its call in flight
pub record IsPlacedAt (within : Bool) (place : Place) (flight : Flight) (ticket : Ticket) : Type 0 where
  pub ordinal : place.ordinal ≡ flight.ordinal
  pub incarnation : place.incarnation ≡ ticket.incarnation
  pub logged : place.logged ≡ flight.answered
  pub inside : within ≡ true → place.inside ≡ true

-- or an earlier call's, where the call in flight did not enter yet
abbrev pub PlacesTicket : Bool → Place → Flight → Option Ticket → Type 0
PlacesTicket inside place flight None = place.ordinal < flight.ordinal
PlacesTicket inside place flight (Some ticket) = IsPlacedAt inside place flight ticket

abbrev pub IsPlaced : Bool → Place → Option Flight → Type 0
IsPlaced inside place None = Unit {0}
IsPlaced inside place (Some flight) = PlacesTicket inside place flight flight.ticket

pub record IsSeatedAt (mine : CallerState) (place : Place) : Type 0 where
  pub begun : place.ordinal ≤ mine.begun
  pub placed : IsPlaced mine.inside place mine.flight

-- the trace is disciplined, and what it watches is what the core has; the plain entries, in order, are the calls that it logs
pub record IsTrailed (journal : JournalState) (callers : List CallerState) (now : Stage) : Type 0 where
  pub watch : Watch
  pub folded : folds next (watch_from (length callers)) journal.trail ≡ Some watch
  pub places : length watch.places ≡ length callers
  pub mode : IsMode now watch.mode callers
  pub struck : watch.struck ≡ length journal.records
  pub covers : length journal.oplog ≤ watch.since
  pub sealed : watch.sealed ≡ journal.sealed_at
  pub seated : EachCaller (λ caller mine. (place : Place) → slice_get watch.places caller ≡ Some place → IsSeatedAt mine place) callers
  pub plain : plain_keys journal.history ≡ logged_keys journal.trail
