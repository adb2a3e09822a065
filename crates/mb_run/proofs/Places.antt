-- Which of a caller's calls have their entries, event by event.
use Rattle.std.proofs.Common.{◌≡◌, List, [], ◌∷◌, ◌++◌, ℕ, ◌+◌, true, false, take, refl, ap, sym, ◌∙◌, add-zero, Option, None, Some, slice_get}
use Rattle.mb_kinds.specs.declared.calls.Call.{Call}
use Rattle.mb_kinds.specs.declared.entries.Flight.{Flight}
use Rattle.mb_run.specs.Served.{IsAtBy}
use Rattle.mb_run.specs.Sights.{Sight, flight_of, one_if}
use Rattle.mb_run.specs.Sights.{SeatHasTicket, IsTicketOf, SightSeat}
use Rattle.mb_kinds.specs.declared.faults.Ticket.{Ticket}
use Rattle.std.proofs.Common.{Bool}
use Rattle.mb_run.proofs.Lists.{take_next}

-- a call begins, or is in flight already
pub at_begins : (list made : List Call) (done : ℕ) (sight : Sight) (caller : ℕ) (call : Call) (before : Option Flight) (flight : Flight)
    → IsAtBy list made done (sight.seats caller).begun before → slice_get list done ≡ Some call → flight.ordinal ≡ (flight_of sight caller call before).ordinal → flight.call ≡ (flight_of sight caller call before).call
    → flight.answered ≡ (flight_of sight caller call before).answered → IsAtBy list made done flight.ordinal (Some flight)
at_begins list made done sight caller call None flight at next ordinal called answered =
    (ordinal ∙ ap (λ n. n + 1) at.0, ordinal ∙ ap (λ n. n + 1) at.0, next ∙ ap Some (sym called), at.1 ∙ ap (λ n. take n list) (sym (add-zero done)) ∙ ap (λ b. take (done + one_if b) list) (sym answered))
at_begins list made done sight caller call (Some f) flight at next ordinal called answered =
    (ordinal ∙ at.1, ordinal ∙ at.1, at.2 ∙ ap Some (sym called), rw answered at.3)

-- a flight without an entry gets one
pub at_logs : (list made : List Call) (done begun : ℕ) (flight : Flight) → flight.answered ≡ false → IsAtBy list made done begun (Some flight)
    → IsAtBy list (made ++ flight.call ∷ []) done flight.ordinal (Some (record flight { answered = true }))
at_logs list made done begun flight lacks at =
    let so_far : made ≡ take done list = at.3 ∙ ap (λ b. take (done + one_if b) list) lacks ∙ ap (λ n. take n list) (add-zero done) in
    (at.1, at.1, at.2, ap (λ cs. cs ++ flight.call ∷ []) so_far ∙ sym (take_next list done flight.call at.2))

-- a flight with its entry ends
pub at_leaves : (list made : List Call) (done begun : ℕ) (flight : Flight) → flight.answered ≡ true → IsAtBy list made done begun (Some flight) → IsAtBy list made (done + 1) begun None
at_leaves list made done begun flight has at = (at.0, at.3 ∙ ap (λ b. take (done + one_if b) list) has)

-- a flight without an entry gets one and ends
pub at_ends : (list made : List Call) (done begun : ℕ) (flight : Flight) → flight.answered ≡ false → IsAtBy list made done begun (Some flight)
    → IsAtBy list (made ++ flight.call ∷ []) (done + 1) flight.ordinal None
at_ends list made done begun flight lacks at = at_leaves list (made ++ flight.call ∷ []) done flight.ordinal (record flight { answered = true }) refl (at_logs list made done begun flight lacks at)

-- a ticket of a call in flight
pub of_ticket : (done : Bool) (seat : SightSeat) (ticket : Ticket) → SeatHasTicket done seat ticket → IsTicketOf seat ticket
of_ticket done seat ticket has = (has.flight, has.here, has.mine)
