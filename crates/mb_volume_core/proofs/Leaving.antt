-- A call that has its entry leaves, and one that has none is given up.
use Rattle.std.proofs.Common.{◌≡◌, ◌⊎◌, ◌∙◌, List, ℕ, ◌+◌, Bool, true, false, if◌then◌else◌, Option, None, Some, slice_get, slice_set, refl, ap, sym, subst, arith}
use Rattle.std.proofs.lemmas.Option.{same_Some}
use Rattle.mb_kinds.specs.declared.entries.Entry.{Entry}
use Rattle.mb_kinds.specs.declared.entries.Flight.{Flight}
use Rattle.mb_kinds.specs.declared.faults.Ticket.{Ticket}
use Rattle.mb_kinds.specs.declared.replies.Reply.{Reply}
use Rattle.mb_core_spec.specs.Callers.{begun, one_if}
use Rattle.mb_core_spec.specs.Events.{ended, leaving, taken_back, with_room}
use Rattle.mb_core_spec.specs.Flights.{IsAnswered}
use Rattle.mb_core_spec.specs.Numbers.{is_open, open_calls, open_flight}
use Rattle.mb_core_spec.specs.State.{CallerState, CoreState}
use Rattle.mb_core_spec.specs.declared.steps.Step.TheVariants as step
use Rattle.mb_core_state.specs.Answers.{Leaving}
use Rattle.mb_core_state.specs.declared.answers.Left.{Left}
use Rattle.mb_core_state.specs.declared.answers.Left.TheVariants as left
use Rattle.mb_core_events.specs.Callings.{CallHasEntry, HasOpenCall}
use Rattle.mb_run.specs.CoreSight.{seat_of, sight_of}
use Rattle.mb_run.specs.Events.{IsReplyOf, KeepsLog, EndsFlight, LeavesWith, Quits, LeavesOthersAlone}
use Rattle.mb_run.specs.Sights.{SeatHasTicket, IsWaiting, SightSeat}
use Rattle.mb_volume_core.proofs.Origins.{origin_of}
use Rattle.mb_volume_core.proofs.Staying.{begun_now, floor_without, keeps_log, marks_none, marks_one, open_now, seat_now, seated, stays_at}

-- the caller once its call ended
abbrev pub gone : CallerState → CallerState
gone mine = taken_back (record mine { flight = None; inside = false; answer = None })

-- a call that has its entry hands out that entry's reply
pub reply_of : (caller : ℕ) (history : List Entry) (mine : CallerState) (flight : Flight) (answer : Reply) → IsAnswered caller history mine → mine.flight ≡ Some flight → flight.answered ≡ true → mine.answer ≡ Some answer
    → IsReplyOf history caller flight.ordinal answer
reply_of caller history mine flight answer answers flies answered kept =
    let its = answers flight flies answered in
    record { entry = its.0; there = its.1; caller_is = its.2; ordinal_is = its.3; reply_is = same_Some its.0.reply answer (sym its.4 ∙ kept) }

pub has_entry : {F D : Type 0} (core : CoreState F D) (ticket : Ticket) → SeatHasTicket true ((sight_of core).seats ticket.caller) ticket → CallHasEntry core ticket
has_entry core ticket has =
    let its = seated (slice_get core.callers ticket.caller) has.flight has.here in
    (record { mine = its.0; here = its.1; flight = has.flight; flies = its.2; held = has.mine }, has.answered)

pub has_open_call : {F D : Type 0} (core : CoreState F D) (caller : ℕ) → IsWaiting ((sight_of core).seats caller) → HasOpenCall core caller
has_open_call core caller waits =
    let its = seated (slice_get core.callers caller) waits.0 waits.1 in
    (record { mine = its.0; here = its.1; flight = waits.0; flies = its.2 }, waits.2)

module _ {F D : Type 0} (core : CoreState F D) (caller : ℕ) (mine : CallerState) (here : slice_get core.callers caller ≡ Some mine) where
  -- a flight that has its entry ends
  pub leaves_at : (after : CoreState F D) (flight : Flight) → mine.flight ≡ Some flight → flight.answered ≡ true → after.callers ≡ slice_set core.callers caller (gone mine) → LeavesOthersAlone caller (sight_of core) (sight_of after)
      → after.journal.history ≡ core.journal.history → KeepsLog (sight_of core) (sight_of after) → (after.floor ≡ None) ⊎ (after.floor ≡ core.floor) → EndsFlight caller flight (sight_of core) (sight_of after)
  leaves_at after flight flies answered stored stays history log floor =
      let sum : begun after.callers + mine.begun ≡ begun core.callers + mine.begun = begun_now core after caller (gone mine) stored mine here in
      let calls : open_calls after.callers + one_if (is_open (open_flight mine.flight)) ≡ open_calls core.callers + 0 = open_now core after caller (gone mine) stored mine here in
      let shut : one_if (is_open (open_flight mine.flight)) ≡ 0 = ap (λ (o : Option Flight). one_if (is_open (open_flight o))) flies ∙ ap (λ (b : Bool). one_if (is_open (if b then None else Some flight))) answered in
      let left_by : Option CallerState → SightSeat = λ o. record { begun = (seat_of o).begun; flight = None } in
      record {
        stays = stays;
        was = ap (λ (o : Option CallerState). (seat_of o).flight) here ∙ flies;
        answered = answered;
        mine = seat_now core after caller (gone mine) stored mine here ∙ sym (ap left_by here);
        counts = record { history = history; begun = omega (arith, sum); open_calls = omega (arith, calls, shut) };
        log = log;
        floor = floor;
      }

  -- a call without an entry ends
  pub quits_by : (new : CoreState F D) → new ≡ with_room (ended core caller mine new.cache.pins) new → Quits caller (sight_of core) (sight_of new)
  quits_by new event =
      let made : CoreState F D = with_room (ended core caller mine new.cache.pins) new in
      let quits : Quits caller (sight_of core) (sight_of made) = record {
        stays = stays_at core made caller (gone mine) refl refl refl refl refl;
        mine = ap (λ (s : SightSeat). s.flight) (seat_now core made caller (gone mine) refl mine here);
        history = refl;
        log = keeps_log core made refl refl (marks_none core.journal.trail core.journal.trail refl);
        trail = refl;
      } in
      subst (λ (c : CoreState F D). Quits caller (sight_of core) (sight_of c)) (sym event) quits

  pub quit_origin : (new : CoreState F D) → new ≡ with_room (ended core caller mine new.cache.pins) new → origin_of new ≡ origin_of core
  quit_origin new event = ap (λ (c : CoreState F D). origin_of c) event

module _ {F D : Type 0} (core new : CoreState F D) (ticket : Ticket) (mine : CallerState) where
  pub leaves_by : IsAnswered ticket.caller core.journal.history mine → slice_get core.callers ticket.caller ≡ Some mine → (flight : Flight) (answer : Left) → mine.flight ≡ Some flight → flight.answered ≡ true → Leaving core new ticket mine answer
      → LeavesWith (sight_of core) (sight_of new) ticket answer
  leaves_by answers here flight (left.Skip was now) flies answered by = ((λ same. by.other (by.mine_is ∙ same ∙ sym by.now_is)), ap (λ (c : CoreState F D). sight_of c) by.same)
  leaves_by answers here flight (left.Left answer) flies answered by =
      let made : CoreState F D = with_room (leaving core ticket.caller mine ticket new.cache.pins) new in
      let stays = stays_at core made ticket.caller (gone mine) refl refl refl refl refl in
      let leaves = leaves_at core ticket.caller mine here made flight flies answered refl stays refl
      (keeps_log core made refl refl (marks_one core.journal.trail made.journal.trail (step.Left ticket) refl refl)) (floor_without ticket.caller core.floor) in
      (by.0, (flight, subst (λ (c : CoreState F D). EndsFlight ticket.caller flight (sight_of core) (sight_of c)) (sym by.2) leaves, reply_of ticket.caller core.journal.history mine flight answer answers flies answered by.1))

  pub left_origin : (answer : Left) → Leaving core new ticket mine answer → origin_of new ≡ origin_of core
  left_origin (left.Skip was now) by = ap (λ (c : CoreState F D). origin_of c) by.same
  left_origin (left.Left answer) by = ap (λ (c : CoreState F D). origin_of c) by.2
