-- The fault injector is asked, and the call is struck where it says so.
use Rattle.std.proofs.Common.{◌≡◌, [], ◌∷◌, ◌++◌, ℕ, ◌+◌, Bool, true, false, ap, sym, subst, ◌∙◌, Option, Some, IfSome}
use Rattle.mb_core_state.specs.declared.answers.Fault.{Fault}
use Rattle.mb_core_state.specs.declared.answers.Fault.TheVariants as fault
use Rattle.mb_core_spec.specs.State.{records_of}
use Rattle.mb_edge.specs.Crossings.{next_nth}
use Rattle.mb_edge.specs.declared.crossings.Crossing.{Crossing}
use Rattle.mb_edge.specs.declared.crossings.Crossings.{Crossings}
use Rattle.mb_kinds.specs.Own.{own}
use Rattle.mb_kinds.specs.declared.calls.Call.{Call}
use Rattle.mb_kinds.specs.declared.entries.Flight.{Flight}
use Rattle.mb_kinds.specs.declared.faults.FaultRecord.{FaultRecord}
use Rattle.mb_kinds.specs.declared.faults.Kind.{Kind}
use Rattle.mb_kinds.specs.declared.faults.Ticket.{Ticket}
use Rattle.mb_run.proofs.Counting.{counted_goes, counted_taken}
use Rattle.mb_run.specs.Events.{FaultsWith}
use Rattle.mb_run.specs.Recovering.{CrossingsGoOn, FaultIsTaken}
use Rattle.mb_run.specs.Served.{counted}
use Rattle.mb_run.specs.Sights.{SeatHasTicket, IsTicketOf, SightSeat, Sight}
use Rattle.mb_run.specs.declared.runner.At.{At}
use Rattle.mb_run.specs.declared.runner.At.TheVariants as at
use Rattle.mb_volume.specs.Attempts.{back_out}
use Rattle.mb_volume.specs.Parts.{MovesPart, Part, part_of}
use Rattle.mb_volume.specs.Underway.{AddsEntryIf, Comes, PlaceHoldsTicket, IsBegunIf, FlightIsCall, HasMetOnce, IsMetNext, StruckSoFar, IsCallUnderway, PlaceStands}
use Rattle.mb_volume.specs.declared.attempt.Attempt.{Attempt}
use Rattle.mb_volume.specs.declared.events.Came.TheVariants as came
use Rattle.mb_run.proofs.Amiss.{faults_amiss}
use Rattle.mb_volume.proofs.Changing.{moves_records, records_push}
use Rattle.mb_volume.proofs.Entered.{moves_nothing}
use Rattle.mb_volume.proofs.Once.{once_faulted, once_out}
use Rattle.mb_volume.proofs.Standing.{flying}
use Rattle.mb_volume.proofs.Struck.{struck_on, struck_push}

-- the ticket of a call that stands inside
pub record Stood (caller : ℕ) (seat : SightSeat) (ticket : Ticket) : Type 0 where
  pub done : Bool
  pub has : SeatHasTicket done seat ticket
  pub mine : ticket.caller ≡ caller

pub stood_at : (caller : ℕ) (seat : SightSeat) (a : At) (ticket : Ticket) → PlaceHoldsTicket a ticket → PlaceStands caller seat a → Stood caller seat ticket
stood_at caller seat at.Outside ticket holds stands = absurd holds
stood_at caller seat (at.Inside mine) ticket holds stands = subst (Stood caller seat) holds (record { done = false; has = stands.0; mine = stands.1 })
stood_at caller seat (at.Logged mine) ticket holds stands = subst (Stood caller seat) holds (record { done = true; has = stands.0; mine = stands.1 })

module _ (call : Call) (test : Option (Crossing → Bool)) (from now : Part) (attempt : Attempt) (u : IsCallUnderway call test from now attempt) where
  -- the call passed some crossings
  pub underway_on : (crossings : Crossings) → CrossingsGoOn attempt.crossings crossings → IsCallUnderway call test from now (record attempt { crossings = crossings })
  underway_on crossings on = record {
    config = u.config;
    within = rw on.caller u.within;
    most = u.most;
    ordinal = on.ordinal ∙ u.ordinal;
    counts = record { six = on.six ∙ u.counts.six; fits = on.fits };
    begun = subst (λ n. IsBegunIf n call from now now.seat.flight) (sym on.caller) u.begun;
    stands = subst (λ n. PlaceStands n now.seat attempt.at) (sym on.caller) u.stands;
    tables = u.tables;
    struck = struck_on test attempt.crossings crossings from.struck now.struck on u.struck;
    once = subst (λ n. HasMetOnce n now attempt.at) (sym on.ordinal) u.once;
  }

  pub underway_counted : (kind : Kind) → IsCallUnderway call test from now (record attempt { crossings = counted attempt.crossings kind })
  underway_counted kind = underway_on (counted attempt.crossings kind) (counted_goes attempt.crossings kind u.counts)

  -- it has to enter again
  underway_out : IsCallUnderway call test from now (back_out attempt)
  underway_out = record {
    config = u.config;
    within = u.within;
    most = u.most;
    ordinal = u.ordinal;
    counts = u.counts;
    begun = u.begun;
    stands = tt;
    tables = tt;
    struck = u.struck;
    once = once_out attempt.crossings.ordinal now attempt.at u.once;
  }

module _ (call : Call) (test : Option (Crossing → Bool)) (from : Part) (old : Sight) (attempt : Attempt) (u : IsCallUnderway call test from (part_of old attempt.crossings.caller) attempt) where
  -- the call in flight passed some crossings, and was struck at one of them
  pub underway_struck : (new : Sight) (crossings : Crossings) (taken : FaultRecord) (flight : Flight) → (old.seats attempt.crossings.caller).flight ≡ Some flight → CrossingsGoOn attempt.crossings crossings
      → FaultIsTaken test attempt.crossings crossings taken → new.config ≡ old.config → new.history ≡ old.history → new.seats attempt.crossings.caller ≡ old.seats attempt.crossings.caller → new.records ≡ old.records ++ taken ∷ []
      → ((part_of new attempt.crossings.caller).struck ≡ (part_of old attempt.crossings.caller).struck ++ taken ∷ [] → HasMetOnce attempt.crossings.ordinal (part_of new attempt.crossings.caller) attempt.at)
      → IsCallUnderway call test from (part_of new attempt.crossings.caller) (record attempt { crossings = crossings })
  underway_struck new crossings taken flight here on is config history seat records once =
      let was = underway_on call test from (part_of old attempt.crossings.caller) attempt u crossings on in
      let flies = flying call test from old attempt u flight here in
      let struck : records_of new.records attempt.crossings.caller ≡ records_of old.records attempt.crossings.caller ++ taken ∷ [] =
      ap (λ rs. records_of rs attempt.crossings.caller) records ∙ records_push old.records taken attempt.crossings.caller is.caller in
      let entries : own new.history attempt.crossings.caller ≡ own old.history attempt.crossings.caller = ap (λ h. own h attempt.crossings.caller) history in
      let now : FlightIsCall attempt.crossings.caller call from (part_of new attempt.crossings.caller) flight = record {
        call_is = flies.call_is;
        ordinal = flies.ordinal;
        begun = ap (λ (s : SightSeat). s.begun) seat ∙ flies.begun;
        entered = subst (AddsEntryIf flight.answered attempt.crossings.caller (from.seat.begun + 1) call from.entries) (sym entries) flies.entered;
      } in
      let begun : IsBegunIf attempt.crossings.caller call from (part_of new attempt.crossings.caller) (new.seats attempt.crossings.caller).flight =
      subst (IsBegunIf attempt.crossings.caller call from (part_of new attempt.crossings.caller)) (sym (ap (λ (s : SightSeat). s.flight) seat ∙ here)) now in
      record {
        config = config ∙ u.config;
        within = was.within;
        most = was.most;
        ordinal = was.ordinal;
        counts = was.counts;
        begun = subst (λ n. IsBegunIf n call from (part_of new attempt.crossings.caller) (new.seats attempt.crossings.caller).flight) (sym on.caller) begun;
        stands = subst (λ (s : SightSeat). PlaceStands crossings.caller s attempt.at) (sym seat) was.stands;
        tables = rw config u.tables;
        struck = subst (StruckSoFar test crossings from.struck) (sym struck) (struck_push test attempt.crossings crossings from.struck (records_of old.records attempt.crossings.caller) taken on is u.struck);
        once = subst (λ n. HasMetOnce n (part_of new attempt.crossings.caller) attempt.at) (sym on.ordinal) (once struck);
      }

module _ (call : Call) (test : Option (Crossing → Bool)) (from : Part) (old : Sight) (attempt : Attempt) (u : IsCallUnderway call test from (part_of old attempt.crossings.caller) attempt) where
  module _ (ticket : Ticket) (holds : PlaceHoldsTicket attempt.at ticket) where
    pub stood : Stood attempt.crossings.caller (old.seats attempt.crossings.caller) ticket
    stood = stood_at attempt.crossings.caller (old.seats attempt.crossings.caller) attempt.at ticket holds u.stands

    pub own_ordinal : ticket.ordinal ≡ attempt.crossings.ordinal
    own_ordinal = stood.has.ordinal ∙ (flying call test from old attempt u stood.has.flight stood.has.here).ordinal ∙ sym u.ordinal

    pub ticket_of : IsTicketOf (old.seats ticket.caller) ticket
    ticket_of = subst (λ n. IsTicketOf (old.seats n) ticket) (sym stood.mine) (stood.has.flight, stood.has.here, stood.has.mine)

    module _ (asked : Option (Crossing → Bool)) (struck : Option Crossing) (crossing : Crossing) (passed : Crossings) (met : IsMetNext asked struck attempt crossing passed) where
      abbrev taken : FaultRecord
      taken = record { caller = ticket.caller; ordinal = ticket.ordinal; kind = crossing.kind; nth = crossing.nth }

      abbrev expected : FaultRecord
      expected = record { caller = attempt.crossings.caller; ordinal = attempt.crossings.ordinal; kind = crossing.kind; nth = next_nth attempt.crossings.counts crossing.kind }

      taken_is : taken ≡ expected
      taken_is =
          ap (λ n. record { caller = n; ordinal = ticket.ordinal; kind = crossing.kind; nth = crossing.nth }) stood.mine
          ∙ ap (λ n. record { caller = attempt.crossings.caller; ordinal = n; kind = crossing.kind; nth = crossing.nth }) own_ordinal
          ∙ ap (λ n. record { caller = attempt.crossings.caller; ordinal = attempt.crossings.ordinal; kind = crossing.kind; nth = n }) (ap (λ (c : Crossing). c.nth) met.next)

      pub struck_here : struck ≡ Some (record { caller = ticket.caller; ordinal = ticket.ordinal; kind = crossing.kind; nth = crossing.nth })
      struck_here = met.struck_is ∙ ap Some (
          ap (λ n. record { caller = n; ordinal = crossing.ordinal; kind = crossing.kind; nth = crossing.nth }) (ap (λ (c : Crossing). c.caller) met.next ∙ sym stood.mine)
          ∙ ap (λ n. record { caller = ticket.caller; ordinal = n; kind = crossing.kind; nth = crossing.nth }) (ap (λ (c : Crossing). c.ordinal) met.next ∙ sym own_ordinal))

      pub moves_faults : (new : Sight) (answer : Fault) → FaultsWith old new ticket crossing.kind crossing.nth answer → MovesPart attempt.crossings.caller old new
      moves_faults new (fault.Skip mine was) faults = moves_nothing old new attempt.crossings.caller faults.1
      moves_faults new (fault.Struck number) faults = moves_records attempt.crossings.caller old new (taken ∷ []) faults.1.config faults.1.seats faults.1.counts.history faults.1.records (stood.mine, tt)
          (faults_amiss old new ticket crossing.kind crossing.nth (fault.Struck number) faults)

  module _ (ticket : Ticket) (holds : PlaceHoldsTicket attempt.at ticket) (struck : Option Crossing) (crossing : Crossing) (passed : Crossings) (met : IsMetNext test struck attempt crossing passed) where
    was_taken : FaultIsTaken test attempt.crossings passed (record { caller = ticket.caller; ordinal = ticket.ordinal; kind = crossing.kind; nth = crossing.nth })
    was_taken =
        let fires : IfSome test (λ f. f (record { caller = attempt.crossings.caller; ordinal = attempt.crossings.ordinal; kind = crossing.kind; nth = next_nth attempt.crossings.counts crossing.kind }) ≡ true) =
        subst (λ c. IfSome test (λ f. f c ≡ true)) met.next met.holds in
        subst (λ c. FaultIsTaken test attempt.crossings c (taken ticket holds test struck crossing passed met)) (sym met.passed_is)
        (subst (FaultIsTaken test attempt.crossings (counted attempt.crossings crossing.kind)) (sym (taken_is ticket holds test struck crossing passed met)) (counted_taken test attempt.crossings crossing.kind u.counts fires))

    passes : CrossingsGoOn attempt.crossings passed
    passes = subst (CrossingsGoOn attempt.crossings) (sym met.passed_is) (counted_goes attempt.crossings crossing.kind u.counts)

    pub comes_faulted : (new : Sight) (answer : Fault) → FaultsWith old new ticket crossing.kind crossing.nth answer
        → Comes call test attempt.crossings.caller from (part_of new attempt.crossings.caller) (back_out (record attempt { crossings = passed })) came.On
    comes_faulted new (fault.Skip mine was) faults =
        subst (λ (s : Sight). IsCallUnderway call test from (part_of s attempt.crossings.caller) (back_out (record attempt { crossings = passed }))) (sym faults.1)
        (underway_out call test from (part_of old attempt.crossings.caller) (record attempt { crossings = passed }) (underway_on call test from (part_of old attempt.crossings.caller) attempt u passed passes))
    comes_faulted new (fault.Struck number) faults =
        let is = stood ticket holds in
        underway_struck call test from old (back_out attempt) (underway_out call test from (part_of old attempt.crossings.caller) attempt u) new passed (taken ticket holds test struck crossing passed met) is.has.flight is.has.here passes was_taken faults.1.config
        faults.1.counts.history (faults.1.seats attempt.crossings.caller) faults.1.records
        (λ more. once_faulted attempt.crossings.caller attempt.crossings.ordinal (part_of old attempt.crossings.caller) (part_of new attempt.crossings.caller) (taken ticket holds test struck crossing passed met) attempt.at ticket holds u.stands met.leaves
        (faults.1.seats attempt.crossings.caller) more u.once)
