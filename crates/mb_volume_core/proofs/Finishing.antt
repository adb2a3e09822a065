-- A call that finishes.
use Rattle.std.proofs.Common.{◌≡◌, ◌⊎◌, ◌∙◌, ◌+◌, ◌++◌, ◌≤◌, inl, inr, ℕ, Bool, true, false, if◌then◌else◌, is_some, Option, None, Some, IfSome, List, length, slice_get, refl, ap, sym, subst, arith, length-append}
use Rattle.std.proofs.lemmas.Bool.{cases_lt}
use Rattle.std.proofs.lemmas.Option.{slice_get_within}
use Rattle.std.specs.Prelude.{min, nat_le}
use Rattle.mb_kinds.specs.Image.{Image}
use Rattle.mb_kinds.specs.declared.calls.Call.{Call}
use Rattle.mb_kinds.specs.declared.entries.Flight.{Flight}
use Rattle.mb_kinds.specs.declared.faults.Ticket.{Ticket}
use Rattle.mb_kinds.specs.declared.replies.Reply.{Reply}
use Rattle.mb_kinds.specs.declared.replies.Reply.TheVariants as reply
use Rattle.mb_edge.specs.Damage.{OpenCounts}
use Rattle.mb_oplog.specs.declared.oplogs.Logged.{Logged}
use Rattle.mb_tree.specs.declared.machines.Machine.{Machine}
use Rattle.mb_tree.specs.declared.operations.FsOp.{FsOp}
use Rattle.mb_tree.specs.declared.seats.Seat.{Seat as Session}
use Rattle.mb_calls.specs.Performed.{AreAlike, IsAnsweredOver as WasAnswered, IsPlainReply, IsReadyOver as WasReady}
use Rattle.mb_calls.specs.declared.performing.ReadyCall.{ReadyCall as PerformedReady}
use Rattle.mb_callers.specs.CallerLaws.{FloorMeetsNoStale}
use Rattle.mb_callers.specs.Stale.{AllFresh, IsLeastStale}
use Rattle.mb_core_spec.specs.Callers.{one_if}
use Rattle.mb_cache.specs.Kept.{shown}
use Rattle.mb_core_spec.specs.Copies.{HoldsFloor, PagesState, TableCopy}
use Rattle.mb_core_spec.specs.Events.{floor_after, gathers_anew, logged_op, staling, taken_back, with_room}
use Rattle.mb_core_spec.specs.Flights.{IsMine}
use Rattle.mb_core_spec.specs.Numbers.{is_open, open_flight}
use Rattle.mb_core_spec.specs.Owed.{IsPlain}
use Rattle.mb_core_spec.specs.Performed.{Agrees, IsAnsweredBy, IsReadyFor}
use Rattle.mb_core_spec.specs.Right.{Right}
use Rattle.mb_core_spec.specs.State.{CallerState, CoreState}
use Rattle.mb_core_spec.specs.declared.ready.Ready.{Ready}
use Rattle.mb_core_spec.specs.declared.stages.Stage.TheVariants as stage
use Rattle.mb_core_order.proofs.Keepings.{without_mine}
use Rattle.mb_core_state.specs.Answers.{IsPresent}
use Rattle.mb_core_state.specs.Finishing.{Finishes as EndsBy, IsLogged}
use Rattle.mb_core_state.specs.declared.answers.Finished.{Finished}
use Rattle.mb_core_state.specs.declared.answers.Finished.TheVariants as finished
use Rattle.mb_core_events.specs.Callings.{HoldsTicket, MayFinish}
use Rattle.mb_core_events.proofs.Knowing.{runs_now, ticket_of_is}
use Rattle.mb_run.specs.CoreSight.{is_fresh, pages_kept, seat_of, sight_of, stales_of}
use Rattle.mb_run.specs.Events.{FinishesInSight, IsReadyAt, IsStale, Logs}
use Rattle.mb_volume_core.specs.Seals.{SealsAfter}
use Rattle.mb_run.specs.Pages.{HasTablesFor, has}
use Rattle.mb_run.specs.Sights.{SeatHasTicket, SightSeat}
use Rattle.mb_volume_core.specs.Answers.{as_performed}
use Rattle.mb_volume_core.proofs.Answering.{open_is}
use Rattle.mb_volume_core.proofs.Freshness.{holds_fresh}
use Rattle.mb_volume_core.proofs.Gathering.{holds_ticket, last_begun, skipped}
use Rattle.mb_volume_core.proofs.Origins.{origin_of}
use Rattle.mb_volume_core.proofs.Staying.{begun_now, open_now, own_now, seat_now, some_at, stays_at}

-- ---- what was performed, as the core takes it

answered_as : (view : Image) (machine : Machine) (caller : ℕ) (made : Call) (moment : ℕ) (ready : PerformedReady) (answer : Reply) → WasAnswered view machine caller made moment ready answer → IsAnsweredBy view machine caller made moment (as_performed ready) answer
answered_as view machine caller made moment ready (reply.Refused e) is = record { refused = is.refused; op = is.op; session = is.session; changes = is.changes }
answered_as view machine caller made moment ready (reply.Num number) is = record { planned = is.planned; held = is.held; effect = is.effect; volume = is.volume; kept = is.kept }
answered_as view machine caller made moment ready (reply.Got bytes) is = record { planned = is.planned; held = is.held; effect = is.effect; volume = is.volume; kept = is.kept }
answered_as view machine caller made moment ready (reply.Info stat) is = record { planned = is.planned; held = is.held; effect = is.effect; volume = is.volume; kept = is.kept }
answered_as view machine caller made moment ready (reply.Restart first second) is = record { planned = is.planned; held = is.held; effect = is.effect; volume = is.volume; kept = is.kept }
answered_as view machine caller made moment ready reply.Device is = record { planned = is.planned; held = is.held; effect = is.effect; volume = is.volume; kept = is.kept }
answered_as view machine caller made moment ready (reply.Failed count) is = record { planned = is.planned; held = is.held; effect = is.effect; volume = is.volume; kept = is.kept }

alike : (shared : Bool) (caller : ℕ) (given : List Session) (opens : OpenCounts) (seats : List Session) → Agrees shared caller given opens seats → AreAlike shared caller given opens seats
alike false caller given opens seats agrees = record { own = agrees; others = tt }
alike true caller given opens seats agrees = record { own = agrees.0; others = record { counted = agrees.1; directories = agrees.2 } }

ready_as : (view : ℕ → Option (List ℕ)) (given : List Session) (opens : OpenCounts) (caller : ℕ) (made : Call) (moment : ℕ) (ready : PerformedReady) → WasReady view given opens caller made moment ready
    → IsReadyFor view given opens caller made moment (as_performed ready)
ready_as view given opens caller made moment ready is = λ image tree seats part volume agrees valid.
    (let does = (is image tree seats part volume (alike ready.shared caller given opens seats agrees) valid).0 in
    record { lawful = does.lawful; answered = answered_as image (record { tree = tree; seats = seats }) caller made moment ready ready.reply does.answered })

plain_as : (answer : Reply) → IsPlainReply answer → IsPlain answer
plain_as (reply.Num number) is = tt
plain_as (reply.Got bytes) is = tt
plain_as (reply.Info stat) is = tt
plain_as (reply.Refused e) is = tt
plain_as (reply.Restart first second) is = absurd is
plain_as reply.Device is = absurd is
plain_as (reply.Failed count) is = absurd is

-- ---- the log has one operation more at most

one_more : (old new : List Logged) (op : Option FsOp) (pick : Option ℕ) → new ≡ old ++ logged_op op pick → length new ≤ length old + 1
one_more old new None pick grown = let is = ap length grown in let all = length-append old (logged_op None pick) in omega (arith, is, all)
one_more old new (Some op) pick grown = let is = ap length grown in let all = length-append old (logged_op (Some op) pick) in omega (arith, is, all)

-- ---- it may finish

given_tables : (tables : Option TableCopy) (P : TableCopy → Type 0) → is_some tables ≡ true → IfSome tables P → (given : TableCopy) × (tables ≡ Some given) × P given
given_tables None P there holds = absurd (let wrong : false ≡ true = there in cc)
given_tables (Some given) P there holds = (given, refl, holds)

module _ {F D : Type 0} (told : D → Option Image) (faults : D → ℕ) (core : CoreState F D) (r : Right told faults core) (ticket : Ticket) (pages : PagesState) where
  pub may_finish : (ready : PerformedReady) → SeatHasTicket false ((sight_of core).seats ticket.caller) ticket → has pages 0 ≡ true → HasTablesFor (length core.config.callers) pages → IsReadyAt (sight_of core) ticket pages ready
      → MayFinish core ticket pages (as_performed ready)
  may_finish ready has_ticket there tables is =
      let holds = holds_ticket core ticket false has_ticket in
      let of = holds.0 in
      let given = given_tables pages.tables _ there (is of.flight (ap (λ (o : Option CallerState). (seat_of o).flight) of.here ∙ of.flies)) in
      let many : length given.0.sessions ≡ length core.config.callers = subst (λ (o : Option TableCopy). IfSome o (λ (t : TableCopy). length t.sessions ≡ length core.config.callers)) given.1 tables in
      let same = r.orderly.numbered.callers_are in
      let low = slice_get_within core.callers ticket.caller of.mine of.here in
      let seat = some_at given.0.sessions ticket.caller (omega (arith, many, same, low)) in
      let fits = given.2.1 seat.0 seat.1 in
      record {
        of = of;
        unanswered = holds.1;
        given = given.0;
        tables = given.1;
        ready_for = ready_as (shown pages.blocks) given.0.sessions given.0.opens ticket.caller of.flight.call of.flight.moment ready given.2.0;
        plain = plain_as ready.reply fits.plain;
        session = fits.range;
      }

  -- ---- what it is answered

  module _ (floor_fresh : FloorMeetsNoStale) (new : CoreState F D) (of : HoldsTicket core ticket) (unanswered : of.flight.answered ≡ false) where
    abbrev caller : ℕ
    caller = ticket.caller

    last : of.flight.ordinal ≡ of.mine.begun
    last = last_begun told faults core r caller of.mine of.flight of.here of.flies unanswered

    -- a copy that is stale is not fresh
    not_held : (shared : Bool) (block : ℕ) → IsLeastStale shared caller core.cache.stamps core.tables of.mine.pages pages block → of.mine.pages ≡ pages → HoldsFloor core.cache.stamps core.tables of.mine.pages → ⊥
    not_held shared block stale same holds =
        let all = floor_fresh shared caller core.cache.stamps core.tables of.mine.pages holds in
        stale.stale (subst (λ (p : PagesState). AllFresh shared caller core.cache.stamps core.tables of.mine.pages p) same all block)

    stale_test : (b : Bool) → (b ≡ true → ⊥) → b ≡ false
    stale_test true never = absurd (never refl)
    stale_test false never = refl

    taken_or : (stales : ℕ) (floor : Option ℕ) → IsMine caller floor → (floor_after caller stales floor ≡ None) ⊎ (floor_after caller stales floor ≡ Some caller)
    taken_or stales floor mine = elim (nat_le 3 stales) as (λ b. ((if b then Some caller else floor) ≡ None) ⊎ ((if b then Some caller else floor) ≡ Some caller)) [
      | true ↦ inr refl
      | false ↦ mine
    ]

    abbrev anew : CallerState
    anew = gathers_anew of.mine caller (floor_after caller of.mine.stales core.floor)

    is_stale : (shared : Bool) (block : ℕ) → IsPresent core ticket → IsMine caller core.floor → IsLeastStale shared caller core.cache.stamps core.tables of.mine.pages pages block
        → new ≡ with_room (staling core caller of.mine ticket block new.cache.pins) new → IsStale caller (sight_of core) (sight_of new) pages
    is_stale shared block present mine stale event =
        let stored = ap (λ (c : CoreState F D). c.callers) event in
        let own = own_now core new caller anew stored of.mine of.here in
        let begun_is = begun_now core new caller anew stored of.mine of.here in
        let opened = open_now core new caller anew stored of.mine of.here in
        let kept_is : pages_kept (slice_get core.callers caller) ≡ of.mine.pages = ap pages_kept of.here in
        let undoable = r.orderly.undoable caller of.mine of.here in
        record {
          stays = stays_at core new caller anew stored (ap (λ (c : CoreState F D). c.config) event) (ap (λ (c : CoreState F D). c.journal.records) event) (ap (λ (c : CoreState F D). c.stage) event) (ap (λ (c : CoreState F D). c.incarnation) event);
          mine = seat_now core new caller anew stored of.mine of.here ∙ sym (ap seat_of of.here);
          counts = record { history = ap (λ (c : CoreState F D). c.journal.history) event; begun = omega (arith, begun_is); open_calls = omega (arith, opened) };
          sealed_at = ap (λ (c : CoreState F D). c.journal.sealed_at) event;
          ops = (let same : length new.journal.oplog ≡ length core.journal.oplog = ap (λ (c : CoreState F D). length c.journal.oplog) event in omega (arith, same));
          ticket = ticket;
          block = block;
          own = refl;
          trail = ap (λ (c : CoreState F D). c.journal.trail) event;
          was = mine;
          floor = elim (taken_or of.mine.stales core.floor mine) [ inl none ↦ inl (ap (λ (c : CoreState F D). c.floor) event ∙ none) | inr taken ↦ inr (ap (λ (c : CoreState F D). c.floor) event ∙ taken) ];
          empty = ap pages_kept own;
          fresh = ap (λ (o : Option CallerState). is_fresh new.cache.stamps new.tables (pages_kept o)) own;
          few = λ same. elim (cases_lt of.mine.stales 4) [
            | inl low ↦ (let is : stales_of (slice_get core.callers caller) ≡ of.mine.stales = ap stales_of of.here in omega (arith, low, is))
            | inr four ↦ absurd (
                let most = undoable.stales in
                let floor_is = undoable.fourth (omega (arith, four, most)) in
                not_held shared block stale (sym kept_is ∙ same) (r.orderly.fresh (runs_now told faults core r ticket of present) caller of.mine of.here floor_is))
          ];
          spoiled = λ same. stale_test (is_fresh core.cache.stamps core.tables (pages_kept (slice_get core.callers caller)))
              (λ test. not_held shared block stale (sym kept_is ∙ same) (holds_fresh core.cache.stamps core.tables of.mine.pages (sym (ap (is_fresh core.cache.stamps core.tables) kept_is) ∙ test)));
          stales = ap stales_of own ∙ sym (ap (λ (o : Option CallerState). min (stales_of o + 1) 4) of.here);
        }

    abbrev entered : Reply → CallerState
    entered answer = record (taken_back of.mine) { flight = Some (record of.flight { answered = true }); answer = Some answer }

    abbrev with_entry : ℕ → SightSeat
    with_entry begun = record { begun = begun; flight = Some (record of.flight { answered = true }) }

    logs : (ready : Ready) → IsMine caller core.floor → IsLogged core new caller of.mine of.flight ticket ready → Logs caller (sight_of core) (sight_of new) ticket
    logs ready mine logged =
        let event = logged.event in
        let stored = ap (λ (c : CoreState F D). c.callers) event in
        let begun_is = begun_now core new caller (entered ready.reply) stored of.mine of.here in
        let opened = open_now core new caller (entered ready.reply) stored of.mine of.here in
        let was : one_if (is_open (open_flight of.mine.flight)) ≡ 1 = ap (λ (f : Option Flight). one_if (is_open f)) (open_is of.mine.flight of.flight of.flies unanswered) in
        record {
          stays = stays_at core new caller (entered ready.reply) stored (ap (λ (c : CoreState F D). c.config) event) (ap (λ (c : CoreState F D). c.journal.records) event) (ap (λ (c : CoreState F D). c.stage) event) (ap (λ (c : CoreState F D). c.incarnation) event);
          flight = of.flight;
          was = ap (λ (o : Option CallerState). (seat_of o).flight) of.here ∙ of.flies;
          mine = seat_now core new caller (entered ready.reply) stored of.mine of.here ∙ ap with_entry (sym last);
          pick = ready.pick;
          answer = ready.reply;
          history = ap (λ (c : CoreState F D). c.journal.history) event;
          begun = omega (arith, begun_is);
          open_calls = omega (arith, opened, was);
          sealed_at = ap (λ (c : CoreState F D). c.journal.sealed_at) event;
          ops = one_more core.journal.oplog new.journal.oplog ready.op ready.pick (ap (λ (c : CoreState F D). c.journal.oplog) event);
          floor = ap (λ (c : CoreState F D). c.floor) event ∙ without_mine caller core.floor mine;
          trail = ap (λ (c : CoreState F D). c.journal.trail) event;
        }

    -- `after` is the core with the checkpoint that was due
    pub finishes_are : (ready : Ready) (answer : Finished) → EndsBy core new ticket of.mine of.flight pages ready answer → (after : CoreState F D) (made : Call) → SealsAfter answer made new after
        → FinishesInSight (sight_of core) (sight_of after) ticket pages made answer
    finishes_are ready (finished.Skip was now) by after made seals = (skipped core new ticket was now by, ap sight_of seals ∙ ap sight_of by.same)
    finishes_are ready (finished.Busy holder) by after made seals =
        let whose : holder.caller ≡ by.1.at = (ticket_of_is told faults core r by.1.at holder by.1.ticket).caller_is in
        (by.0, by.1.floor ∙ ap Some (sym whose), (λ same. by.1.other (sym whose ∙ same)), ap sight_of seals ∙ ap sight_of by.2)
    finishes_are ready (finished.Stale block) by after made seals = (by.0, subst (λ (c : CoreState F D). IsStale caller (sight_of core) (sight_of c) pages) (sym seals) (is_stale ready.shared block by.0 by.1 by.2 by.3))
    finishes_are ready finished.NoMemory by after made seals = (by.0, ap sight_of seals ∙ ap sight_of by.2)
    finishes_are ready finished.Logged by after made seals = (by.0, by.1, record { logged = sight_of new; logs = logs ready by.1 by.3; seals = seals }, runs_now told faults core r ticket of by.0)

    -- a volume on which a call was logged runs
    pub logged_runs : (ready : Ready) → EndsBy core new ticket of.mine of.flight pages ready finished.Logged → new.stage ≡ stage.Running
    logged_runs ready by = ap (λ (c : CoreState F D). c.stage) by.3.event ∙ runs_now told faults core r ticket of by.0

    -- what the core was begun on stays
    pub finishes_begun : (ready : Ready) (answer : Finished) → EndsBy core new ticket of.mine of.flight pages ready answer → origin_of new ≡ origin_of core
    finishes_begun ready (finished.Skip was now) by = ap origin_of by.same
    finishes_begun ready (finished.Busy holder) by = ap origin_of by.2
    finishes_begun ready (finished.Stale block) by = ap origin_of by.3
    finishes_begun ready finished.NoMemory by = ap origin_of by.2
    finishes_begun ready finished.Logged by = ap origin_of by.3.event
