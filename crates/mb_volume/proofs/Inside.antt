-- A call inside gathers and finishes; one that has its entry leaves.
use Rattle.std.proofs.Common.{◌≡◌, [], ◌∷◌, ◌++◌, ℕ, ◌+◌, ◌≤◌, Bool, true, false, refl, ap, sym, subst, ◌∙◌, arith, Option, None, Some}
use Rattle.mb_calls.specs.declared.performing.Performed.TheVariants as performed
use Rattle.mb_calls.specs.declared.performing.ReadyCall.{ReadyCall}
use Rattle.mb_core_spec.specs.Copies.{PagesState}
use Rattle.mb_core_state.specs.declared.answers.Finished.{Finished}
use Rattle.mb_core_state.specs.declared.answers.Finished.TheVariants as finished
use Rattle.mb_core_state.specs.declared.answers.Gathered.{Gathered}
use Rattle.mb_core_state.specs.declared.answers.Gathered.TheVariants as gathered
use Rattle.mb_core_state.specs.declared.answers.Left.TheVariants as left
use Rattle.mb_edge.specs.declared.crossings.Crossing.{Crossing}
use Rattle.mb_iface.specs.declared.replies.Need.{Need}
use Rattle.mb_kinds.specs.Own.{own}
use Rattle.mb_kinds.specs.declared.calls.Call.{Call}
use Rattle.mb_kinds.specs.declared.entries.Entry.{Entry}
use Rattle.mb_kinds.specs.declared.entries.Flight.{Flight}
use Rattle.mb_kinds.specs.declared.faults.Ticket.{Ticket}
use Rattle.mb_kinds.specs.declared.replies.Reply.{Reply}
use Rattle.mb_kinds.specs.declared.replies.Reply.TheVariants as reply
use Rattle.mb_run.proofs.Lists.{own_mine}
use Rattle.mb_run.proofs.Amiss.{gathers_amiss, leaves_amiss}
use Rattle.mb_run.specs.Events.{Answers, FinishesInSight, Gains, GathersInSight, IsCallOf, IsReadyAt, IsStale, EndsFlight, LeavesOthersAlone, LeavesWith, Logs, SealsIf, entry_of, sealed}
use Rattle.mb_run.specs.Pages.{HasTablesFor, PerformsOver}
use Rattle.mb_run.specs.Seals.{is_due}
use Rattle.mb_run.specs.Sights.{IsOrderlyInSight, SeatHasTicket, Limits, SightSeat, Sight, amiss_in}
use Rattle.mb_run.specs.declared.runner.At.TheVariants as at
use Rattle.mb_volume.specs.Attempts.{back_out, going_in}
use Rattle.mb_volume.specs.Called.{MetOnce}
use Rattle.mb_volume.specs.Parts.{MovesPart, Part, part_of}
use Rattle.mb_volume.specs.Underway.{AddsEntry, AddsEntryIf, Comes, IsBegunIf, FlightIsCall, IsReplyIn, StruckSoFar, IsCallUnderway, FlightLacksEntry, HasMetOnce, PlaceStands}
use Rattle.mb_volume.specs.declared.attempt.Attempt.{Attempt}
use Rattle.mb_volume.specs.declared.events.Came.TheVariants as came
use Rattle.mb_volume.proofs.Changing.{moves_entry, moves_stays, part_is}
use Rattle.mb_volume.proofs.Entered.{answered_by, answered_leaves, moves_nothing, struck_still}
use Rattle.mb_volume.proofs.Once.{once_out}
use Rattle.mb_volume.proofs.Replies.{own_reply}
use Rattle.mb_volume.proofs.Standing.{IsFlight, flying}

-- ---- what stays of a part

-- an event that changes neither the caller's entries nor its calls nor its records
pub part_still : (caller : ℕ) (old new : Sight) → new.config ≡ old.config → new.history ≡ old.history → new.seats caller ≡ old.seats caller → new.records ≡ old.records → part_of new caller ≡ part_of old caller
part_still caller old new config history seat records = part_is (part_of new caller) (part_of old caller) (ap (λ h. own h caller) history) seat (struck_still caller old new records) config

-- a checkpoint changes no part
sealed_part : (b : Bool) (caller : ℕ) (old new : Sight) → SealsIf b old new → part_of new caller ≡ part_of old caller
sealed_part true caller old new seals = ap (λ (s : Sight). part_of s caller) seals
sealed_part false caller old new seals = ap (λ (s : Sight). part_of s caller) seals

sealed_moves : (b : Bool) (caller : ℕ) (old mid new : Sight) (entry : Entry) → SealsIf b mid new → amiss_in new ≤ amiss_in old → LeavesOthersAlone caller old mid → entry.caller ≡ caller → mid.history ≡ old.history ++ entry ∷ [] → MovesPart caller old new
sealed_moves true caller old mid new entry seals low stays mine history =
    subst (MovesPart caller old) (sym seals)
    (moves_entry caller old (sealed mid new) entry
    (record { config = stays.config; records = stays.records; stage = stays.stage; incarnation = stays.incarnation; seats = stays.seats; copies = stays.copies; stales = stays.stales })
    mine history (let same = ap amiss_in seals in omega (arith, same, low)))
sealed_moves false caller old mid new entry seals low stays mine history =
    subst (MovesPart caller old) (sym seals) (moves_entry caller old mid entry stays mine history (let same = ap amiss_in seals in omega (arith, same, low)))

module _ (call : Call) (test : Option (Crossing → Bool)) (from : Part) (old : Sight) (attempt : Attempt) (u : IsCallUnderway call test from (part_of old attempt.crossings.caller) attempt) where
  -- the call has to enter again
  pub underway_back : IsCallUnderway call test from (part_of old attempt.crossings.caller) (back_out attempt)
  underway_back = record {
    config = u.config;
    within = u.within;
    most = u.most;
    ordinal = u.ordinal;
    counts = u.counts;
    begun = u.begun;
    stands = tt;
    tables = tt;
    struck = u.struck;
    once = once_out attempt.crossings.ordinal (part_of old attempt.crossings.caller) attempt.at u.once;
  }

  pub comes_back : (new : Sight) → new ≡ old → Comes call test attempt.crossings.caller from (part_of new attempt.crossings.caller) (back_out attempt) came.On
  comes_back new same = subst (λ (s : Sight). IsCallUnderway call test from (part_of s attempt.crossings.caller) (back_out attempt)) (sym same) underway_back

  pub underway_asked : IsCallUnderway call test from (part_of old attempt.crossings.caller) (record attempt { asked = true })
  underway_asked = record { config = u.config; within = u.within; most = u.most; ordinal = u.ordinal; counts = u.counts; begun = u.begun; stands = u.stands; tables = u.tables; struck = u.struck; once = u.once }

  pub comes_busy : (new : Sight) → new ≡ old → Comes call test attempt.crossings.caller from (part_of new attempt.crossings.caller) (record attempt { asked = true }) came.Busy
  comes_busy new same = subst (λ (s : Sight). IsCallUnderway call test from (part_of s attempt.crossings.caller) (record attempt { asked = true })) (sym same) underway_asked

  -- ---- inside

  module _ (ticket : Ticket) (inside : attempt.at ≡ at.Inside ticket) where
    pub stood : SeatHasTicket false (old.seats attempt.crossings.caller) ticket × (ticket.caller ≡ attempt.crossings.caller)
    stood = subst (PlaceStands attempt.crossings.caller (old.seats attempt.crossings.caller)) inside u.stands

    pub has_ticket : SeatHasTicket false (old.seats ticket.caller) ticket
    has_ticket = subst (λ n. SeatHasTicket false (old.seats n) ticket) (sym stood.1) stood.0

    pub own_ticket : ticket.caller ≡ attempt.crossings.caller
    own_ticket = stood.1

    pub lacks_inside : FlightLacksEntry (old.seats attempt.crossings.caller).flight
    lacks_inside = subst FlightLacksEntry (sym stood.0.here) stood.0.answered

    pub flies : FlightIsCall attempt.crossings.caller call from (part_of old attempt.crossings.caller) stood.0.flight
    flies = flying call test from old attempt u stood.0.flight stood.0.here

    is_flight : IsFlight call from (part_of old attempt.crossings.caller) stood.0.flight
    is_flight = record {
      call_is = flies.call_is;
      ordinal = flies.ordinal;
      lacks = λ lacks. subst (λ b. AddsEntryIf b attempt.crossings.caller (from.seat.begun + 1) call from.entries (own old.history attempt.crossings.caller)) lacks flies.entered;
    }

    once_inside : MetOnce attempt.crossings.ordinal (part_of old attempt.crossings.caller).struck
    once_inside = subst (HasMetOnce attempt.crossings.ordinal (part_of old attempt.crossings.caller)) inside u.once

    -- nothing of the caller's part changed, and it has more pages, or none
    underway_with : (pages : PagesState) (asked : Bool) → HasTablesFor old.config.callers pages → IsCallUnderway call test from (part_of old attempt.crossings.caller) (record attempt { asked = asked; pages = pages })
    underway_with pages asked tables = record { config = u.config; within = u.within; most = u.most; ordinal = u.ordinal; counts = u.counts; begun = u.begun; stands = u.stands; tables = tables; struck = u.struck; once = u.once }

    pub comes_gain : (new : Sight) (need : Need) (now : PagesState) → GathersInSight old new ticket need attempt.pages now gathered.Done → Comes call test attempt.crossings.caller from (part_of new attempt.crossings.caller) (record attempt { pages = now }) came.On
    comes_gain new need now gathers =
        let gains = subst (λ n. Gains n old new need attempt.pages now) own_ticket gathers.1 in
        subst (λ (p : Part). IsCallUnderway call test from p (record attempt { pages = now })) (sym (part_still attempt.crossings.caller old new gains.stays.config gains.counts.history gains.mine gains.stays.records))
        (underway_with now attempt.asked (gains.tables u.tables))

    pub comes_device : (new : Sight) (need : Need) (before pages : PagesState) (now : Attempt) → GathersInSight old new ticket need before pages gathered.Device → Comes call test attempt.crossings.caller from (part_of new attempt.crossings.caller) now (came.Answered reply.Device)
    comes_device new need before pages now gathers =
        let made : Answers attempt.crossings.caller stood.0.flight reply.Device old new = subst (λ n. Answers n stood.0.flight reply.Device old new) own_ticket (gathers.1 stood.0.flight (ap (λ n. (old.seats n).flight) own_ticket ∙ stood.0.here)) in
        answered_by call test from old attempt u new stood.0.flight reply.Device tt is_flight stood.0.answered made

    pub comes_stale : (new : Sight) (block : ℕ) → FinishesInSight old new ticket attempt.pages call (finished.Stale block) → Comes call test attempt.crossings.caller from (part_of new attempt.crossings.caller) (going_in attempt ticket) came.On
    comes_stale new block finishes =
        let stale = subst (λ n. IsStale n old new attempt.pages) own_ticket finishes.1 in
        subst (λ (p : Part). IsCallUnderway call test from p (going_in attempt ticket)) (sym (part_still attempt.crossings.caller old new stale.stays.config stale.counts.history stale.mine stale.stays.records))
        (record { config = u.config; within = u.within; most = u.most; ordinal = u.ordinal; counts = u.counts; begun = u.begun; stands = stood; tables = tt; struck = u.struck; once = once_inside })

    comes_logged : (new : Sight) → Logs ticket.caller old new ticket → Comes call test attempt.crossings.caller from (part_of new attempt.crossings.caller) (record attempt { at = at.Logged ticket }) came.On
    comes_logged new of =
        let logs = subst (λ n. Logs n old new ticket) own_ticket of in
        let was = flying call test from old attempt u logs.flight logs.was in
        let same : Some stood.0.flight ≡ Some logs.flight = sym stood.0.here ∙ logs.was in
        let lacks : logs.flight.answered ≡ false = cc (stood.0.answered) in
        let mine : logs.flight.ticket ≡ Some ticket = cc (stood.0.mine) in
        let ordinal : ticket.ordinal ≡ logs.flight.ordinal = cc (stood.0.ordinal) in
        let moment : ticket.moment ≡ logs.flight.moment = cc (stood.0.moment) in
        let flight : Flight = record logs.flight { answered = true } in
        let none : own old.history attempt.crossings.caller ≡ from.entries = subst (λ b. AddsEntryIf b attempt.crossings.caller (from.seat.begun + 1) call from.entries (own old.history attempt.crossings.caller)) lacks was.entered in
        let added : AddsEntry attempt.crossings.caller (from.seat.begun + 1) call from.entries (own new.history attempt.crossings.caller) = record {
          entry = entry_of attempt.crossings.caller logs.flight logs.pick logs.answer;
          whole = ap (λ h. own h attempt.crossings.caller) logs.history ∙ own_mine old.history (entry_of attempt.crossings.caller logs.flight logs.pick logs.answer) attempt.crossings.caller refl
              ∙ ap (λ es. es ++ entry_of attempt.crossings.caller logs.flight logs.pick logs.answer ∷ []) none;
          caller_is = refl;
          ordinal_is = was.ordinal;
          call_is = was.call_is;
        } in
        let now : FlightIsCall attempt.crossings.caller call from (part_of new attempt.crossings.caller) flight = record {
          call_is = was.call_is;
          ordinal = was.ordinal;
          begun = ap (λ (s : SightSeat). s.begun) logs.mine ∙ was.ordinal;
          entered = added;
        } in
        record {
          config = logs.stays.config ∙ u.config;
          within = u.within;
          most = u.most;
          ordinal = u.ordinal;
          counts = u.counts;
          begun = subst (IsBegunIf attempt.crossings.caller call from (part_of new attempt.crossings.caller)) (sym (ap (λ (s : SightSeat). s.flight) logs.mine)) now;
          stands = (record { flight = flight; here = ap (λ (s : SightSeat). s.flight) logs.mine; mine = mine; ordinal = ordinal; moment = moment; answered = refl }, own_ticket);
          tables = subst (λ (l : Limits). HasTablesFor l.callers attempt.pages) (sym logs.stays.config) u.tables;
          struck = subst (StruckSoFar test attempt.crossings from.struck) (sym (struck_still attempt.crossings.caller old new logs.stays.records)) u.struck;
          once = subst (MetOnce attempt.crossings.ordinal) (sym (struck_still attempt.crossings.caller old new logs.stays.records)) once_inside;
        }

    pub comes_sealed : (new : Sight) → FinishesInSight old new ticket attempt.pages call finished.Logged → Comes call test attempt.crossings.caller from (part_of new attempt.crossings.caller) (record attempt { at = at.Logged ticket }) came.On
    comes_sealed new finishes =
        let of = finishes.2 in
        subst (λ (p : Part). IsCallUnderway call test from p (record attempt { at = at.Logged ticket })) (sym (sealed_part (is_due of.logged.config.threshold of.logged.ops call) attempt.crossings.caller of.logged new of.seals)) (comes_logged of.logged of.logs)

    -- the call in flight is that one
    pub call_at : IsCallOf (old.seats ticket.caller) call
    call_at flight here = (flying call test from old attempt u flight (ap (λ n. (old.seats n).flight) (sym own_ticket) ∙ here)).call_is

    -- what was performed is what the flight is finished with
    pub ready_at : (ready : ReadyCall) → PerformsOver attempt.pages ticket.caller call ticket.moment (performed.Ready ready) → IsReadyAt old ticket attempt.pages ready
    ready_at ready performs = λ flight here.
        let flight_here : (old.seats attempt.crossings.caller).flight ≡ Some flight = ap (λ n. (old.seats n).flight) (sym own_ticket) ∙ here in
        let is = flying call test from old attempt u flight flight_here in
        let same : Some stood.0.flight ≡ Some flight = sym stood.0.here ∙ flight_here in
        let moment : ticket.moment ≡ flight.moment = cc (stood.0.moment) in
        subst (λ m. PerformsOver attempt.pages ticket.caller flight.call m (performed.Ready ready)) moment (subst (λ (c : Call). PerformsOver attempt.pages ticket.caller c ticket.moment (performed.Ready ready)) (sym is.call_is) performs)

  -- ---- with its entry

  module _ (ticket : Ticket) (logged : attempt.at ≡ at.Logged ticket) where
    pub stood_logged : SeatHasTicket true (old.seats attempt.crossings.caller) ticket × (ticket.caller ≡ attempt.crossings.caller)
    stood_logged = subst (PlaceStands attempt.crossings.caller (old.seats attempt.crossings.caller)) logged u.stands

    pub has_logged : SeatHasTicket true (old.seats ticket.caller) ticket
    has_logged = subst (λ n. SeatHasTicket true (old.seats n) ticket) (sym stood_logged.1) stood_logged.0

    pub own_logged : ticket.caller ≡ attempt.crossings.caller
    own_logged = stood_logged.1

    pub comes_left : (new : Sight) (now : Attempt) (answer : Reply) → LeavesWith old new ticket (left.Left answer) → Comes call test attempt.crossings.caller from (part_of new attempt.crossings.caller) now (came.Answered answer)
    comes_left new now answer leaves = answered_leaves call test from old attempt u new leaves.1.0 answer (subst (λ n. EndsFlight n leaves.1.0 old new) own_logged leaves.1.1)
        (subst (λ n. IsReplyIn (own old.history n) leaves.1.0.ordinal answer) own_logged (own_reply old.history ticket.caller leaves.1.0.ordinal answer leaves.1.2))

-- ---- what it leaves to the others

module _ (old new : Sight) (ticket : Ticket) (caller : ℕ) (mine : ticket.caller ≡ caller) where
  pub moves_gathers : (need : Need) (before now : PagesState) (answer : Gathered) → IsOrderlyInSight old → SeatHasTicket false (old.seats ticket.caller) ticket → GathersInSight old new ticket need before now answer → MovesPart caller old new
  moves_gathers need before now (gathered.Skip was is) right has gathers = moves_nothing old new caller gathers.1
  moves_gathers need before now gathered.Device right has gathers =
      let made : Answers caller has.flight reply.Device old new = subst (λ n. Answers n has.flight reply.Device old new) mine (gathers.1 has.flight has.here) in
      moves_entry caller old new (entry_of caller has.flight None reply.Device) made.stays refl made.history (gathers_amiss old new ticket need before now gathered.Device right has gathers)
  moves_gathers need before now gathered.NoMemory right has gathers = moves_nothing old new caller gathers.0
  moves_gathers need before now gathered.Done right has gathers = let gains = subst (λ n. Gains n old new need before now) mine gathers.1 in moves_stays caller old new gains.stays gains.counts.history (gathers_amiss old new ticket need before now gathered.Done right has gathers)

  pub moves_finishes : (pages : PagesState) (made : Call) (answer : Finished) → amiss_in new ≤ amiss_in old → FinishesInSight old new ticket pages made answer → MovesPart caller old new
  moves_finishes pages made (finished.Skip was is) seals finishes = moves_nothing old new caller finishes.1
  moves_finishes pages made (finished.Busy holder) seals finishes = moves_nothing old new caller finishes.3
  moves_finishes pages made (finished.Stale block) seals finishes = let stale = subst (λ n. IsStale n old new pages) mine finishes.1 in moves_stays caller old new stale.stays stale.counts.history seals
  moves_finishes pages made finished.NoMemory seals finishes = moves_nothing old new caller finishes.1
  moves_finishes pages made finished.Logged seals finishes =
      let of = finishes.2 in
      let logs = subst (λ n. Logs n old of.logged ticket) mine of.logs in
      sealed_moves (is_due of.logged.config.threshold of.logged.ops made) caller old of.logged new (entry_of caller logs.flight logs.pick logs.answer) of.seals seals logs.stays refl logs.history

  pub moves_left : (answer : Reply) → LeavesWith old new ticket (left.Left answer) → MovesPart caller old new
  moves_left answer leaves =
      let gone = subst (λ n. EndsFlight n leaves.1.0 old new) mine leaves.1.1 in
      moves_stays caller old new gone.stays gone.counts.history (leaves_amiss old new ticket (left.Left answer) leaves)
