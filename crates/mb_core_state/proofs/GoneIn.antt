-- A call that went inside is the core's event.
use Rattle.std.proofs.Common.{◌≡◌, ◌∙◌, ◌<◌, ℕ, zero, suc, List, [], ◌∷◌, false, Option, None, Some, slice_get, slice_set, refl, ap, sym, subst, arith}
use Rattle.mb_kinds.specs.declared.calls.Call.{Call}
use Rattle.mb_kinds.specs.declared.entries.Flight.{Flight}
use Rattle.mb_kinds.specs.declared.faults.Ticket.{Ticket}
use Rattle.mb_tree.specs.SessionLaws.{IsCall}
use Rattle.mb_core_spec.specs.Events.{begins, entering, with_room}
use Rattle.mb_core_spec.specs.Numbers.{open_calls}
use Rattle.mb_core_spec.specs.State.{CallerState, CoreState}
use Rattle.mb_core_spec.specs.declared.stages.Stage.TheVariants as stage
use Rattle.mb_core_state.proofs.Enterings.{set_here}
use Rattle.mb_core_state.specs.Entering.{GoesIn, GoesInside, begun_if, flight_if, reserved_by}
use Rattle.mb_core_state.specs.StateLaws.{IsBeginAndEnter, IsEnterEvent}

set_twice : (callers : List CallerState) (at : ℕ) (one other : CallerState) → slice_set (slice_set callers at one) at other ≡ slice_set callers at other
set_twice [] at one other = refl
set_twice (first ∷ callers) zero one other = refl
set_twice (first ∷ callers) (suc at) one other = ap (λ rest. first ∷ rest) (set_twice callers at one other)

module _ {F D : Type 0} (old new : CoreState F D) (caller : ℕ) (mine : CallerState) (given : Call) (ticket : Ticket) (here : slice_get old.callers caller ≡ Some mine) (outside : mine.inside ≡ false) (runs : old.stage ≡ stage.Running)
    (goes : GoesIn old new caller mine given ticket) where
  goes_by : (flying : Option Flight) → mine.flight ≡ flying
      → GoesInside old new caller (begun_if old.config.start old.callers mine given flying) (flight_if old.config.start old.callers mine given flying) ticket (reserved_by old.tables.sessions caller given)
  goes_by flying is = subst (λ (f : Option Flight). GoesInside old new caller (begun_if old.config.start old.callers mine given f) (flight_if old.config.start old.callers mine given f) ticket (reserved_by old.tables.sessions caller given)) is goes.inside

  pub entered_again : (flight : Flight) → mine.flight ≡ Some flight → flight.answered ≡ false → IsEnterEvent old new caller mine flight ticket (reserved_by old.tables.sessions caller given)
  entered_again flight flies unanswered = (let h = goes_by (Some flight) flies in record {
    event = h.event;
    may = record {
      here = here;
      flies = flies;
      unanswered = unanswered;
      outside = outside;
      runs = runs;
      ticket_is = h.ticket_is;
      marks = goes.room.trail;
      records = goes.room.records;
      entries = goes.room.entries;
    };
  })

  pub entered_new : mine.flight ≡ None → IsCall given → mine.begun < old.config.most → open_calls old.callers < 8 → IsBeginAndEnter old new caller mine given ticket
  entered_new none call few space = (let h = goes_by None none in record {
    room = record old.journal.room { history = new.journal.room.history };
    begins_so = record {
      here = here;
      call_is = call;
      free = none;
      few = few;
      left = record { trail = omega arith; history = (let kept = goes.room.entries in omega (arith, kept)); records = omega arith };
      space = (let room = goes.room.history in omega (arith, room, space));
    };
    enters_so = record {
      event = h.event ∙ ap (λ (all : List CallerState). with_room (record (entering old caller (begins old.config.start old.callers mine given) (flight_if old.config.start old.callers mine given None) ticket (reserved_by old.tables.sessions caller given)) { callers = all }) new)
          (sym (set_twice old.callers caller (begins old.config.start old.callers mine given) _));
      may = record {
        here = set_here old.callers caller mine (begins old.config.start old.callers mine given) here;
        flies = refl;
        unanswered = refl;
        outside = outside;
        runs = runs;
        ticket_is = h.ticket_is;
        marks = goes.room.trail;
        records = goes.room.records;
        entries = omega arith;
      };
    };
  })
