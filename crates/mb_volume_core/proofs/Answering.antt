-- A call in flight ends with an entry that changes nothing.
use Rattle.std.proofs.Common.{◌≡◌, ◌∙◌, inl, inr, ℕ, false, Option, None, Some, slice_get, refl, ap, sym, arith}
use Rattle.mb_kinds.specs.declared.entries.Flight.{Flight}
use Rattle.mb_kinds.specs.declared.replies.Reply.{Reply}
use Rattle.mb_cache.specs.Stamps.{Stamps}
use Rattle.mb_core_spec.specs.Callers.{one_if}
use Rattle.mb_core_spec.specs.Events.{answered_by, taken_back, with_room}
use Rattle.mb_core_spec.specs.Numbers.{is_open, open_flight}
use Rattle.mb_core_spec.specs.State.{CallerState, CoreState}
use Rattle.mb_run.specs.CoreSight.{seat_of, sight_of}
use Rattle.mb_run.specs.Events.{Answers}
use Rattle.mb_run.specs.Sights.{SightSeat, is_new, one_if as one_more_if}
use Rattle.mb_volume_core.proofs.Staying.{begun_now, floor_without, keeps_log, marks_none, open_now, seat_now, stays_at}

-- a call in flight without an entry is open
pub open_is : (flying : Option Flight) (flight : Flight) → flying ≡ Some flight → flight.answered ≡ false → open_flight flying ≡ Some flight
open_is flying flight flies unanswered = rw flies (rw unanswered refl)

-- a caller's call in flight is none that begins
pub not_new : (found : Option CallerState) (mine : CallerState) (flight : Flight) → found ≡ Some mine → mine.flight ≡ Some flight → one_more_if (is_new (seat_of found).flight) ≡ 0
not_new found mine flight here flies = ap (λ (o : Option CallerState). one_more_if (is_new (seat_of o).flight)) here ∙ ap (λ (f : Option Flight). one_more_if (is_new f)) flies

abbrev bare : ℕ → SightSeat
bare begun = record { begun = begun; flight = None }

abbrev gone : CallerState → CallerState
gone mine = taken_back (record mine { flight = None; inside = false; answer = None })

module _ {F D : Type 0} (core new : CoreState F D) (caller : ℕ) (mine : CallerState) (here : slice_get core.callers caller ≡ Some mine) (flight : Flight) (flies : mine.flight ≡ Some flight) (unanswered : flight.answered ≡ false)
    (last : flight.ordinal ≡ mine.begun) where
  pub answered : (answer : Reply) (pins : Stamps) → new ≡ with_room (answered_by core caller mine flight answer pins) new → Answers caller flight answer (sight_of core) (sight_of new)
  answered answer pins event =
      let stored = ap (λ (c : CoreState F D). c.callers) event in
      let begun_is = begun_now core new caller (gone mine) stored mine here in
      let opened = open_now core new caller (gone mine) stored mine here in
      let was : one_if (is_open (open_flight mine.flight)) ≡ 1 = ap (λ (f : Option Flight). one_if (is_open f)) (open_is mine.flight flight flies unanswered) in
      let old_call = not_new (slice_get core.callers caller) mine flight here flies in
      record {
        stays = stays_at core new caller (gone mine) stored (ap (λ (c : CoreState F D). c.config) event) (ap (λ (c : CoreState F D). c.journal.records) event) (ap (λ (c : CoreState F D). c.stage) event) (ap (λ (c : CoreState F D). c.incarnation) event);
        mine = seat_now core new caller (gone mine) stored mine here ∙ ap bare (sym last);
        history = ap (λ (c : CoreState F D). c.journal.history) event;
        begun = omega (arith, begun_is, old_call);
        open_calls = omega (arith, opened, was, old_call);
        log = keeps_log core new (ap (λ (c : CoreState F D). c.journal.sealed_at) event) (ap (λ (c : CoreState F D). c.journal.oplog) event) (marks_none core.journal.trail new.journal.trail (ap (λ (c : CoreState F D). c.journal.trail) event));
        floor = elim (floor_without caller core.floor) [ inl none ↦ inl (ap (λ (c : CoreState F D). c.floor) event ∙ none) | inr same ↦ inr (ap (λ (c : CoreState F D). c.floor) event ∙ same) ];
      }
