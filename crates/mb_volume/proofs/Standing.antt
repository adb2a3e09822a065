-- A call under way: what its caller's part says of its flight.
use Rattle.std.proofs.Common.{◌≡◌, ℕ, ◌+◌, ◌<◌, Bool, false, refl, ap, sym, subst, arith, Option, None, Some}
use Rattle.mb_edge.specs.declared.crossings.Crossing.{Crossing}
use Rattle.mb_kinds.specs.declared.calls.Call.{Call}
use Rattle.mb_kinds.specs.declared.entries.Flight.{Flight}
use Rattle.mb_run.specs.Served.{MayBeginOrGoOn, MayEnterInSight}
use Rattle.mb_run.specs.Sights.{Limits, Sight, flight_of}
use Rattle.mb_volume.specs.Parts.{Part, part_of}
use Rattle.mb_volume.specs.Underway.{AddsEntryIf, IsBegunIf, FlightIsCall, IsCallUnderway, FlightLacksEntry}
use Rattle.mb_volume.specs.declared.attempt.Attempt.{Attempt}

-- what the flight of a call that enters is
pub record IsFlight (call : Call) (from now : Part) (flight : Flight) : Type 0 where
  pub call_is : flight.call ≡ call
  pub ordinal : flight.ordinal ≡ from.seat.begun + 1
  pub lacks : flight.answered ≡ false → now.entries ≡ from.entries

flight_is : (sight : Sight) (caller : ℕ) (call : Call) (from : Part) (flight : Option Flight) → IsBegunIf caller call from (part_of sight caller) flight → IsFlight call from (part_of sight caller) (flight_of sight caller call flight)
flight_is sight caller call from None begun = record { call_is = refl; ordinal = ap (λ n. n + 1) begun.0; lacks = λ lacks. begun.1 }
flight_is sight caller call from (Some flight) begun = record {
  call_is = begun.call_is;
  ordinal = begun.ordinal;
  lacks = λ lacks. subst (λ b. AddsEntryIf b caller (from.seat.begun + 1) call from.entries (part_of sight caller).entries) lacks begun.entered;
}

begin_is : (most caller : ℕ) (call : Call) (from now : Part) (flight : Option Flight) → from.seat.begun < most → IsBegunIf caller call from now flight → MayBeginOrGoOn most now.seat call flight
begin_is most caller call from now None below begun = omega (arith, below, begun.0)
begin_is most caller call from now (Some flight) below begun = begun.call_is

pub lacks_if : (sight : Sight) (caller : ℕ) (call : Call) (flight : Option Flight) → (flight_of sight caller call flight).answered ≡ false → FlightLacksEntry flight
lacks_if sight caller call None lacks = tt
lacks_if sight caller call (Some flight) lacks = lacks

module _ (call : Call) (test : Option (Crossing → Bool)) (from : Part) (old : Sight) (attempt : Attempt) (u : IsCallUnderway call test from (part_of old attempt.crossings.caller) attempt) where
  pub declared : attempt.crossings.caller < old.config.callers
  declared = subst (λ (l : Limits). attempt.crossings.caller < l.callers) (sym u.config) u.within

  pub may_enter : MayEnterInSight old attempt.crossings.caller call
  may_enter = record {
    within = declared;
    may = begin_is old.config.most attempt.crossings.caller call from (part_of old attempt.crossings.caller) (old.seats attempt.crossings.caller).flight (subst (λ (l : Limits). from.seat.begun < l.most) (sym u.config) u.most) u.begun;
  }

  pub flight_now : IsFlight call from (part_of old attempt.crossings.caller) (flight_of old attempt.crossings.caller call (old.seats attempt.crossings.caller).flight)
  flight_now = flight_is old attempt.crossings.caller call from (old.seats attempt.crossings.caller).flight u.begun

  -- the call in flight
  pub flying : (flight : Flight) → (old.seats attempt.crossings.caller).flight ≡ Some flight → FlightIsCall attempt.crossings.caller call from (part_of old attempt.crossings.caller) flight
  flying flight here = subst (IsBegunIf attempt.crossings.caller call from (part_of old attempt.crossings.caller)) here u.begun
