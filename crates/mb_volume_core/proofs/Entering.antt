-- A call enters: what the driver sees of it.
use Rattle.std.proofs.Common.{◌≡◌, ◌⊎◌, inl, inr, ◌∙◌, List, [], ◌∷◌, ◌++◌, ℕ, ◌+◌, ◌<◌, Bool, true, false, if◌then◌else◌, Option, None, Some, IfSome, slice_get, slice_set, refl, ap, sym, subst, add_assoc, add-zero, arith}
use Rattle.mb_kinds.specs.Image.{Image}
use Rattle.mb_kinds.specs.declared.calls.Call.{Call}
use Rattle.mb_kinds.specs.declared.entries.Flight.{Flight}
use Rattle.mb_kinds.specs.declared.faults.Ticket.{Ticket}
use Rattle.mb_kinds.specs.declared.replies.Reply.{Reply}
use Rattle.mb_kinds.specs.declared.replies.Reply.TheVariants as reply
use Rattle.mb_core_spec.specs.Callers.{begun, one_if}
use Rattle.mb_core_spec.specs.Copies.{PagesState, no_pages}
use Rattle.mb_core_spec.specs.Events.{answered_by, beginning, ended, entering, goes_in, with_room}
use Rattle.mb_core_spec.specs.Faults.{IsTwice}
use Rattle.mb_core_spec.specs.Flights.{HasTicket, IsFlying, IsTicket, runs}
use Rattle.mb_core_spec.specs.Numbers.{is_open, open_flight}
use Rattle.mb_core_spec.specs.Right.{Right}
use Rattle.mb_core_spec.specs.State.{CallerState, CoreState}
use Rattle.mb_core_spec.specs.declared.stages.Stage.{Stage}
use Rattle.mb_core_spec.specs.declared.stages.Stage.TheVariants as stage
use Rattle.mb_core_spec.specs.declared.steps.Step.TheVariants as step
use Rattle.mb_core_order.proofs.Readings.{flying_inside}
use Rattle.mb_core_state.specs.Entering.{Enters as CoreEnters, GoesIn, HasEntry, HasTicketNow, IsCause, IsHandedOut, IsShut, LacksEntry, LacksTicket, begun_if, flight_if, reserved_by, waiting_if}
use Rattle.mb_core_state.specs.declared.answers.Enter.{Enter as Entered}
use Rattle.mb_core_state.specs.declared.answers.Enter.TheVariants as entered
use Rattle.mb_core_events.specs.Callings.{MayCall}
use Rattle.mb_run.specs.CoreSight.{is_fresh, pages_kept, seat_of, sight_of, stales_of}
use Rattle.mb_run.specs.Events.{Answers, BeginsFlight, EntersInSight, EntersInside, IsAnsweredAt, IsReplyOf, IsUnplain, KeepsLog, EndsFlight, LeavesOthersAlone}
use Rattle.mb_run.specs.Served.{MayBeginOrGoOn, MayEnterInSight}
use Rattle.mb_run.specs.Sights.{IsOld, SightSeat, flight_of, is_new, one_if as one_where, recovers}
use Rattle.mb_volume_core.specs.Answers.{entered_as}
use Rattle.mb_volume_core.proofs.Leaving.{gone, leaves_at, reply_of}
use Rattle.mb_volume_core.proofs.Origins.{origin_of}
use Rattle.mb_volume_core.proofs.Staying.{begun_now, floor_without, keeps_log, marks_none, marks_one, open_now, own_now, seat_now, set_same, set_twice, stays_at}

-- the driver's call is one that the core takes
pub may_call : {F D : Type 0} (core : CoreState F D) (caller : ℕ) (call : Call) → MayEnterInSight (sight_of core) caller call → MayCall core caller call
may_call core caller call may = record {
  declared = may.within;
  same = λ mine flight here flies. subst (MayBeginOrGoOn core.config.most ((sight_of core).seats caller) call) (ap (λ (o : Option CallerState). (seat_of o).flight) here ∙ flies) may.may;
  few = λ mine here free.
      (let few : ((sight_of core).seats caller).begun < core.config.most = subst (MayBeginOrGoOn core.config.most ((sight_of core).seats caller) call) (ap (λ (o : Option CallerState). (seat_of o).flight) here ∙ free) may.may in
      subst (λ (n : ℕ). n < core.config.most) (ap (λ (o : Option CallerState). (seat_of o).begun) here) few);
}

shut_recovers : (now : Stage) → IsShut now → recovers now ≡ true
shut_recovers stage.Running shut = absurd shut
shut_recovers stage.Struck shut = refl
shut_recovers stage.Again shut = refl
shut_recovers stage.Dropped shut = refl
shut_recovers stage.Remounted shut = refl
shut_recovers (stage.Restored done) shut = refl
shut_recovers stage.Failed shut = absurd shut

unplain : {F D : Type 0} (core : CoreState F D) (caller ordinal : ℕ) (answer : Reply) → IsCause core caller ordinal answer → IsUnplain answer
unplain core caller ordinal (reply.Restart first second) cause = tt
unplain core caller ordinal (reply.Failed faults) cause = tt
unplain core caller ordinal reply.Device cause = absurd cause
unplain core caller ordinal (reply.Num number) cause = absurd cause
unplain core caller ordinal (reply.Got bytes) cause = absurd cause
unplain core caller ordinal (reply.Info stat) cause = absurd cause
unplain core caller ordinal (reply.Refused e) cause = absurd cause

answered_at : {F D : Type 0} (core : CoreState F D) (caller ordinal : ℕ) (answer : Reply) → IsCause core caller ordinal answer → IsAnsweredAt core.stage answer
answered_at core caller ordinal (reply.Restart first second) cause = cause.0
answered_at core caller ordinal (reply.Failed faults) cause = cause.0
answered_at core caller ordinal reply.Device cause = absurd cause
answered_at core caller ordinal (reply.Num number) cause = absurd cause
answered_at core caller ordinal (reply.Got bytes) cause = absurd cause
answered_at core caller ordinal (reply.Info stat) cause = absurd cause
answered_at core caller ordinal (reply.Refused e) cause = absurd cause

module _ {F D : Type 0} (told : D → Option Image) (faults : D → ℕ) (core : CoreState F D) (r : Right told faults core) (caller : ℕ) (mine : CallerState) (here : slice_get core.callers caller ≡ Some mine) (given : Call) where
  seat_is : (sight_of core).seats caller ≡ record { begun = mine.begun; flight = mine.flight }
  seat_is = ap seat_of here

  -- the caller with its call in flight, and that call
  abbrev state : Option Flight → CallerState
  state o = begun_if core.config.start core.callers mine given o

  abbrev the_flight : Option Flight → Flight
  the_flight o = flight_if core.config.start core.callers mine given o

  flight_same_if : (o : Option Flight) → flight_of (sight_of core) caller given o ≡ the_flight o
  flight_same_if None =
      let with_ordinal : ℕ → Flight = λ n. record { call = given; ordinal = n + 1; moment = core.config.start + begun core.callers + 1; ticket = None; answered = false } in
      let with_moment : ℕ → Flight = λ n. record { call = given; ordinal = mine.begun + 1; moment = n; ticket = None; answered = false } in
      ap with_ordinal (ap (λ (s : SightSeat). s.begun) seat_is) ∙ ap with_moment (add_assoc core.config.start (begun core.callers) 1)
  flight_same_if (Some flight) = refl

  -- the driver's word for it
  flight_same : flight_of (sight_of core) caller given ((sight_of core).seats caller).flight ≡ the_flight mine.flight
  flight_same = ap (λ (s : SightSeat). flight_of (sight_of core) caller given s.flight) seat_is ∙ flight_same_if mine.flight

  lacks_is : (o : Option Flight) → LacksEntry o → (the_flight o).answered ≡ false
  lacks_is None lacks = refl
  lacks_is (Some flight) lacks = lacks

  lacks_here : LacksEntry mine.flight → (flight_of (sight_of core) caller given ((sight_of core).seats caller).flight).answered ≡ false
  lacks_here lacks = ap (λ (f : Flight). f.answered) flight_same ∙ lacks_is mine.flight lacks

  -- the call met no two faults of its own
  abbrev NeverTwice : Type 0
  NeverTwice = (first second : ℕ) → IsTwice core.journal.records caller (the_flight mine.flight).ordinal first second → ⊥

  once_here : NeverTwice → (first second : ℕ) → IsTwice core.journal.records caller (flight_of (sight_of core) caller given ((sight_of core).seats caller).flight).ordinal first second → ⊥
  once_here never first second twice = never first second (subst (λ (f : Flight). IsTwice core.journal.records caller f.ordinal first second) flight_same twice)

  -- ---- numbers

  last : (flight : Flight) → mine.flight ≡ Some flight → flight.answered ≡ false → flight.ordinal ≡ mine.begun
  last flight flies lacks =
      let waits : open_flight mine.flight ≡ Some flight = ap open_flight flies ∙ ap (λ (b : Bool). if b then None else Some flight) lacks in
      (r.orderly.numbered.waiting caller mine here flight waits).last

  begun_is : (o : Option Flight) → mine.flight ≡ o → LacksEntry o → (state o).begun ≡ (the_flight o).ordinal
  begun_is None flies lacks = refl
  begun_is (Some flight) flies lacks = sym (last flight flies lacks)

  begun_more : (o : Option Flight) → (state o).begun ≡ mine.begun + one_where (is_new o)
  begun_more None = refl
  begun_more (Some flight) = sym (add-zero mine.begun)

  opens_one : (o : Option Flight) → mine.flight ≡ o → LacksEntry o → one_if (is_open (open_flight mine.flight)) + one_where (is_new o) ≡ 1
  opens_one None flies lacks = ap (λ (o : Option Flight). one_if (is_open (open_flight o)) + 1) flies
  opens_one (Some flight) flies lacks = ap (λ (o : Option Flight). one_if (is_open (open_flight o)) + 0) flies ∙ ap (λ (b : Bool). one_if (is_open (if b then None else Some flight)) + 0) lacks

  new_is : (o : Option Flight) → mine.flight ≡ o → one_where (is_new ((sight_of core).seats caller).flight) ≡ one_where (is_new o)
  new_is o flies = ap (λ (s : SightSeat). one_where (is_new s.flight)) seat_is ∙ ap (λ (x : Option Flight). one_where (is_new x)) flies

  -- ---- the call waits, or goes inside

  module _ (after : CoreState F D) (now : CallerState) (stored : after.callers ≡ slice_set core.callers caller now) (o : Option Flight) (flies : mine.flight ≡ o) (lacks : LacksEntry o) (number : now.begun ≡ (state o).begun)
      (stays : LeavesOthersAlone caller (sight_of core) (sight_of after)) where
    begun_sum : begun after.callers ≡ begun core.callers + one_where (is_new ((sight_of core).seats caller).flight)
    begun_sum =
        let sum = begun_now core after caller now stored mine here in
        let more = begun_more o in
        let same = new_is o flies in
        omega (arith, sum, number, more, same)

    begins_at : (flight : Flight) → now.flight ≡ Some flight → flight.ordinal ≡ (the_flight o).ordinal → flight.answered ≡ false → after.journal.history ≡ core.journal.history → KeepsLog (sight_of core) (sight_of after) → after.floor ≡ core.floor → BeginsFlight caller flight (sight_of core) (sight_of after)
    begins_at flight goes ordinal unanswered history log floor =
        let calls = open_now core after caller now stored mine here in
        let one = opens_one o flies lacks in
        let same = new_is o flies in
        let opened : one_if (is_open (open_flight now.flight)) ≡ 1 = ap (λ (x : Option Flight). one_if (is_open (open_flight x))) goes ∙ ap (λ (b : Bool). one_if (is_open (if b then None else Some flight))) unanswered in
        let seat : ℕ → Option Flight → SightSeat = λ n x. record { begun = n; flight = x } in
        record {
          stays = stays;
          mine = seat_now core after caller now stored mine here ∙ ap (λ (n : ℕ). seat n now.flight) (number ∙ begun_is o flies lacks ∙ sym ordinal) ∙ ap (seat flight.ordinal) goes;
          history = history;
          begun = begun_sum;
          open_calls = omega (arith, calls, one, same, opened);
          log = log;
          floor = floor;
        }

    -- ---- or it gets an entry that changes nothing
    answers_at : (answer : Reply) → now.flight ≡ None → (sight_of after).history ≡ core.journal.history ++ record { caller = caller; ordinal = (the_flight o).ordinal; call = (the_flight o).call; pick = None; moment = (the_flight o).moment; reply = answer } ∷ []
        → KeepsLog (sight_of core) (sight_of after) → (after.floor ≡ None) ⊎ (after.floor ≡ core.floor) → Answers caller (the_flight o) answer (sight_of core) (sight_of after)
    answers_at answer ends history log floor =
        let calls = open_now core after caller now stored mine here in
        let one = opens_one o flies lacks in
        let same = new_is o flies in
        let shut : one_if (is_open (open_flight now.flight)) ≡ 0 = ap (λ (x : Option Flight). one_if (is_open (open_flight x))) ends in
        let seat : ℕ → Option Flight → SightSeat = λ n x. record { begun = n; flight = x } in
        record {
          stays = stays;
          mine = seat_now core after caller now stored mine here ∙ ap (λ (n : ℕ). seat n now.flight) (number ∙ begun_is o flies lacks) ∙ ap (seat (the_flight o).ordinal) ends;
          history = history;
          begun = begun_sum;
          open_calls = omega (arith, calls, one, same, shut);
          log = log;
          floor = floor;
        }

  -- ---- by the answer

  -- the call had its entry
  handed_out : (new : CoreState F D) (answer : Reply) → IsHandedOut core new caller mine answer → (o : Option Flight) → mine.flight ≡ o → HasEntry o
      → (flight : Flight) × EndsFlight caller flight (sight_of core) (sight_of new) × IsReplyOf core.journal.history caller flight.ordinal answer
  handed_out new answer out None flies has = absurd has
  handed_out new answer out (Some flight) flies has =
      let made : CoreState F D = with_room (ended core caller mine new.cache.pins) new in
      let leaves = leaves_at core caller mine here made flight flies has refl (stays_at core made caller (gone mine) refl refl refl refl refl) refl (keeps_log core made refl refl (marks_none core.journal.trail core.journal.trail refl)) (floor_without caller core.floor) in
      (flight, subst (λ (c : CoreState F D). EndsFlight caller flight (sight_of core) (sight_of c)) (sym out.event) leaves, reply_of caller core.journal.history mine flight answer (r.orderly.answers caller mine here) flies has out.answer_is)

  given_up_if : (new : CoreState F D) (answer : Reply) (o : Option Flight) → mine.flight ≡ o → LacksEntry o
      → new ≡ with_room (answered_by (waiting_if core caller mine given o) caller (state o) (the_flight o) answer new.cache.pins) new → Answers caller (the_flight o) answer (sight_of core) (sight_of new)
  given_up_if new answer None flies lacks event =
      let made : CoreState F D = with_room (answered_by (beginning core caller mine given) caller (state None) (the_flight None) answer new.cache.pins) new in
      let stored = set_twice core.callers caller (state None) (gone (state None)) in
      subst (λ (c : CoreState F D). Answers caller (the_flight None) answer (sight_of core) (sight_of c)) (sym event)
      (answers_at made (gone (state None)) stored None flies lacks refl (stays_at core made caller (gone (state None)) stored refl refl refl refl) answer refl refl (keeps_log core made refl refl (marks_none core.journal.trail core.journal.trail refl)) (floor_without caller core.floor))
  given_up_if new answer (Some flight) flies lacks event =
      let made : CoreState F D = with_room (answered_by core caller mine flight answer new.cache.pins) new in
      subst (λ (c : CoreState F D). Answers caller flight answer (sight_of core) (sight_of c)) (sym event)
      (answers_at made (gone mine) refl (Some flight) flies lacks refl (stays_at core made caller (gone mine) refl refl refl refl refl) answer refl refl (keeps_log core made refl refl (marks_none core.journal.trail core.journal.trail refl)) (floor_without caller core.floor))

  shut_if : (new : CoreState F D) (o : Option Flight) → mine.flight ≡ o → LacksEntry o → new ≡ with_room (waiting_if core caller mine given o) new → BeginsFlight caller (the_flight o) (sight_of core) (sight_of new)
  shut_if new None flies lacks event =
      let made : CoreState F D = with_room (beginning core caller mine given) new in
      subst (λ (c : CoreState F D). BeginsFlight caller (the_flight None) (sight_of core) (sight_of c)) (sym event)
      (begins_at made (state None) refl None flies lacks refl (stays_at core made caller (state None) refl refl refl refl refl) (the_flight None) refl refl refl refl (keeps_log core made refl refl (marks_none core.journal.trail core.journal.trail refl)) refl)
  shut_if new (Some flight) flies lacks event =
      let made : CoreState F D = with_room core new in
      let stored = sym (set_same core.callers caller mine here) in
      subst (λ (c : CoreState F D). BeginsFlight caller flight (sight_of core) (sight_of c)) (sym event)
      (begins_at made mine stored (Some flight) flies lacks refl (stays_at core made caller mine stored refl refl refl refl) flight flies refl lacks refl (keeps_log core made refl refl (marks_none core.journal.trail core.journal.trail refl)) refl)

  -- the call is inside already
  stays_inside : (ticket : Ticket) → core.stage ≡ stage.Running → LacksEntry mine.flight → NeverTwice → HasTicketNow core.incarnation mine.flight ticket → EntersInside (sight_of core) (sight_of core) caller given ticket
  stays_inside ticket running lacks never_twice now =
      let flight : Flight = now.flight in
      let flying : IsFlying caller mine.inside (runs core.stage) core.incarnation mine.answer (Some flight) = subst (IsFlying caller mine.inside (runs core.stage) core.incarnation mine.answer) now.flies (r.orderly.flying caller mine here) in
      let is : IsTicket caller flight mine.inside (runs core.stage) core.incarnation ticket = subst (HasTicket caller flight mine.inside (runs core.stage) core.incarnation) now.held flying.ticket in
      let unanswered : flight.answered ≡ false = subst LacksEntry now.flies lacks in
      let same : flight_of (sight_of core) caller given ((sight_of core).seats caller).flight ≡ flight = flight_same ∙ ap the_flight now.flies in
      let stored = sym (set_same core.callers caller mine here) in
      let with_ticket : Flight = record flight { ticket = Some ticket } in
      let has : mine.flight ≡ Some with_ticket = now.flies ∙ (let ticketed : Option Ticket → Option Flight = λ t. Some (record flight { ticket = t }) in ap ticketed now.held) in
      let begins : BeginsFlight caller with_ticket (sight_of core) (sight_of core) =
      begins_at core mine stored (Some flight) now.flies unanswered refl (stays_at core core caller mine stored refl refl refl refl) with_ticket has refl unanswered refl (keeps_log core core refl refl (marks_none core.journal.trail core.journal.trail refl)) refl in
      let never : IsOld core.incarnation ((sight_of core).seats caller).flight → ⊥ = λ old.
      (let earlier : IfSome flight.ticket (λ (t : Ticket). t.incarnation < core.incarnation) = subst (IsOld core.incarnation) (ap (λ (s : SightSeat). s.flight) seat_is ∙ now.flies) old in
      let low : ticket.incarnation < core.incarnation = subst (λ (t : Option Ticket). IfSome t (λ (x : Ticket). x.incarnation < core.incarnation)) now.held earlier in
      let present = now.present in
      omega (arith, low, present)) in
      record {
        begins = subst (λ (f : Flight). BeginsFlight caller (record f { ticket = Some ticket }) (sight_of core) (sight_of core)) (sym same) begins;
        runs = running;
        own = is.caller_is;
        ordinal = is.ordinal ∙ sym (ap (λ (f : Flight). f.ordinal) same);
        moment = is.moment ∙ sym (ap (λ (f : Flight). f.moment) same);
        present = now.present;
        lacks = lacks_here lacks;
        once = once_here never_twice;
        empty = λ old. absurd (never old);
        never = λ old. absurd (never old);
        fresh = λ old. absurd (never old);
        trail = λ old. absurd (never old);
      }

  -- who has no ticket of the present incarnation is outside, and keeps nothing
  outside : core.stage ≡ stage.Running → LacksTicket core.incarnation mine.flight → mine.inside ≡ false
  outside running lacks = elim mine.inside as (λ b. mine.inside ≡ b → b ≡ false) [
    | true ↦ λ inside. (
        let flying : IsFlying caller true (runs core.stage) core.incarnation mine.answer mine.flight = subst (λ (b : Bool). IsFlying caller b (runs core.stage) core.incarnation mine.answer mine.flight) inside (r.orderly.flying caller mine here) in
        let flies = flying_inside caller (runs core.stage) core.incarnation mine.answer mine.flight flying in
        let its : LacksTicket core.incarnation (Some flies.flight) = subst (LacksTicket core.incarnation) flies.flies lacks in
        let other : LacksTicket core.incarnation (Some (record flies.flight { ticket = Some flies.ticket })) = subst (λ (t : Option Ticket). LacksTicket core.incarnation (Some (record flies.flight { ticket = t }))) flies.held its in
        absurd (other (flies.is.running_is refl (ap runs running))))
    | false ↦ λ no. refl
  ] refl

  no_pages_of : (pages : PagesState) → pages.blocks ≡ [] → pages.tables ≡ None → pages ≡ no_pages
  no_pages_of pages blocks tables =
      let with_blocks : List _ → PagesState = λ bs. record { blocks = bs; tables = pages.tables } in
      let with_tables : Option _ → PagesState = λ t. record { blocks = []; tables = t } in
      ap with_blocks blocks ∙ ap with_tables tables

  goes_inside : (new : CoreState F D) (ticket : Ticket) → core.stage ≡ stage.Running → LacksEntry mine.flight → NeverTwice → LacksTicket core.incarnation mine.flight → GoesIn core new caller mine given ticket
      → EntersInside (sight_of core) (sight_of new) caller given ticket
  goes_inside new ticket running lacks never_twice without anew =
      let flight : Flight = the_flight mine.flight in
      let reserved : Option ℕ = reserved_by core.tables.sessions caller given in
      let now : CallerState = goes_in (state mine.flight) flight ticket reserved in
      let made : CoreState F D = with_room (entering core caller (state mine.flight) flight ticket reserved) new in
      let is = anew.inside.ticket_is in
      let begins : BeginsFlight caller (record flight { ticket = Some ticket }) (sight_of core) (sight_of made) =
      begins_at made now refl mine.flight refl lacks refl (stays_at core made caller now refl refl refl refl refl) (record flight { ticket = Some ticket }) refl refl (lacks_is mine.flight lacks) refl
      (keeps_log core made refl refl (marks_one core.journal.trail made.journal.trail (step.Entered ticket) refl refl)) refl in
      let kept = (r.orderly.undoable caller mine here).outside (outside running without) in
      let none : mine.pages ≡ no_pages = no_pages_of mine.pages kept.2 kept.3 in
      let pages_if : (o : Option Flight) → (state o).pages ≡ mine.pages = λ o. elim o as (λ x. (state x).pages ≡ mine.pages) [ None ↦ refl | Some f ↦ refl ] in
      let empty : (sight_of made).copies caller ≡ no_pages = ap pages_kept (own_now core made caller now refl mine here) ∙ pages_if mine.flight ∙ none in
      subst (λ (c : CoreState F D). EntersInside (sight_of core) (sight_of c) caller given ticket) (sym anew.inside.event) (record {
        begins = subst (λ (f : Flight). BeginsFlight caller (record f { ticket = Some ticket }) (sight_of core) (sight_of made)) (sym flight_same) begins;
        runs = running;
        own = ap (λ (t : Ticket). t.caller) is;
        ordinal = ap (λ (t : Ticket). t.ordinal) is ∙ sym (ap (λ (f : Flight). f.ordinal) flight_same);
        moment = ap (λ (t : Ticket). t.moment) is ∙ sym (ap (λ (f : Flight). f.moment) flight_same);
        present = ap (λ (t : Ticket). t.incarnation) is;
        lacks = lacks_here lacks;
        once = once_here never_twice;
        empty = λ old. empty;
        never = λ old. ap stales_of (own_now core made caller now refl mine here);
        fresh = λ old. ap (λ (pages : PagesState). is_fresh core.cache.stamps core.tables pages) empty;
        trail = λ old. refl;
      })

  pub enters_by : (new : CoreState F D) (answer : Entered) → CoreEnters core new caller mine given answer → EntersInSight (sight_of core) (sight_of new) caller given (entered_as answer)
  enters_by new (entered.Done answer) by = elim by [
    | inl out ↦ inl (handed_out new answer out mine.flight refl out.has)
    | inr up ↦ inr (
      lacks_here up.0,
      unplain core caller (the_flight mine.flight).ordinal answer up.1,
      subst (λ (f : Flight). Answers caller f answer (sight_of core) (sight_of new)) (sym flight_same) (given_up_if new answer mine.flight refl up.0 up.2.event),
      answered_at core caller (the_flight mine.flight).ordinal answer up.1,
    )
  ]
  enters_by new entered.Shut by = (
    shut_recovers core.stage by.1,
    lacks_here by.0,
    subst (λ (f : Flight). BeginsFlight caller f (sight_of core) (sight_of new)) (sym flight_same) (shut_if new mine.flight refl by.0 by.2),
  )
  enters_by new (entered.Inside ticket) by = elim by.3 [
    | inl again ↦ subst (λ (c : CoreState F D). EntersInside (sight_of core) (sight_of c) caller given ticket) (sym again.1) (stays_inside ticket by.1 by.0 by.2 again.0)
    | inr anew ↦ goes_inside new ticket by.1 by.0 by.2 anew.0 anew.1
  ]
  enters_by new entered.NoMemory by = (ap (λ (c : CoreState F D). sight_of c) by.1, lacks_here by.0)

  -- ---- what it was begun on

  origin_if : (new : CoreState F D) (answer : Reply) (o : Option Flight) → new ≡ with_room (answered_by (waiting_if core caller mine given o) caller (state o) (the_flight o) answer new.cache.pins) new → origin_of new ≡ origin_of core
  origin_if new answer None event = ap (λ (c : CoreState F D). origin_of c) event
  origin_if new answer (Some flight) event = ap (λ (c : CoreState F D). origin_of c) event

  waits_origin_if : (new : CoreState F D) (o : Option Flight) → new ≡ with_room (waiting_if core caller mine given o) new → origin_of new ≡ origin_of core
  waits_origin_if new None event = ap (λ (c : CoreState F D). origin_of c) event
  waits_origin_if new (Some flight) event = ap (λ (c : CoreState F D). origin_of c) event

  pub enter_origin : (new : CoreState F D) (answer : Entered) → CoreEnters core new caller mine given answer → origin_of new ≡ origin_of core
  enter_origin new (entered.Done answer) by = elim by [
    | inl out ↦ ap (λ (c : CoreState F D). origin_of c) out.event
    | inr up ↦ origin_if new answer mine.flight up.2.event
  ]
  enter_origin new entered.Shut by = waits_origin_if new mine.flight by.2
  enter_origin new (entered.Inside ticket) by = elim by.3 [
    | inl again ↦ ap (λ (c : CoreState F D). origin_of c) again.1
    | inr anew ↦ ap (λ (c : CoreState F D). origin_of c) anew.1.inside.event
  ]
  enter_origin new entered.NoMemory by = ap (λ (c : CoreState F D). origin_of c) by.1
