-- A call that gathers.
use Rattle.std.proofs.Common.{◌≡◌, ◌≢◌, ◌∙◌, inl, inr, ℕ, Bool, true, false, if◌then◌else◌, is_some, nat_eq, Option, None, Some, option_map, length, slice_get, refl, ap, sym, subst, arith}
use Rattle.std.proofs.lemmas.Bool.{cases_lt, eqb-true, eqb-false}
use Rattle.std.proofs.lemmas.Option.{same_Some}
use Rattle.mb_kinds.specs.Image.{Image}
use Rattle.mb_kinds.specs.declared.entries.Flight.{Flight}
use Rattle.mb_kinds.specs.declared.faults.Ticket.{Ticket}
use Rattle.mb_kinds.specs.declared.replies.Reply.TheVariants as reply
use Rattle.mb_iface.specs.declared.replies.Need.{Need}
use Rattle.mb_callers.specs.CallerLaws.{Gathered as Got, HasMore}
use Rattle.mb_callers.proofs.Gatherings.{blocks_gathered, tables_gathered}
use Rattle.mb_cache.specs.Kept.{KeptBlock, kept_at}
use Rattle.mb_core_spec.specs.Copies.{PagesState}
use Rattle.mb_core_spec.specs.Events.{gathering, with_room}
use Rattle.mb_core_spec.specs.Right.{Right}
use Rattle.mb_core_spec.specs.State.{CallerState, CoreState}
use Rattle.mb_core_order.proofs.Keepings.{gathers_fresh}
use Rattle.mb_core_state.specs.Answers.{Gathering, IsSkipped, KeepsGathered, live_copy, with_disk}
use Rattle.mb_core_state.specs.declared.answers.Gathered.{Gathered}
use Rattle.mb_core_state.specs.declared.answers.Gathered.TheVariants as gathered
use Rattle.mb_core_events.specs.Callings.{HoldsTicket, IsAsked, IsUnanswered}
use Rattle.mb_core_events.proofs.Knowing.{runs_now}
use Rattle.mb_run.specs.CoreSight.{is_fresh, pages_kept, seat_of, sight_of, stales_of}
use Rattle.mb_run.specs.Events.{Answers, Gains, GathersInSight}
use Rattle.mb_run.specs.Pages.{PagesGrow, HasTablesFor, LacksAll, has}
use Rattle.mb_run.specs.Sights.{SeatHasTicket}
use Rattle.mb_volume_core.proofs.Growing.{blocks_grow, tables_grow}
use Rattle.mb_volume_core.proofs.Origins.{origin_of}
use Rattle.mb_volume_core.proofs.Answering.{answered, open_is}
use Rattle.mb_volume_core.proofs.Freshness.{holds_fresh, tests_fresh}
use Rattle.mb_volume_core.proofs.Staying.{begun_now, keeps_log, marks_none, open_now, own_now, seat_now, seated, stays_at}

-- ---- what pages have

shown_is : (found : Option KeptBlock) → is_some (option_map (λ (kept : KeptBlock). kept.bytes) found) ≡ is_some found
shown_is None = refl
shown_is (Some kept) = refl

keeps_all : (first : ℕ) (old new : PagesState) → HasMore first old new → (block : ℕ) → has old block ≡ true → has new block ≡ true
keeps_all first old new more block = elim (nat_eq block 0) as (λ b. (if b then is_some old.tables else is_some (kept_at old.blocks block)) ≡ true → (if b then is_some new.tables else is_some (kept_at new.blocks block)) ≡ true) [
  | true ↦ more.tables
  | false ↦ λ there. sym (shown_is (kept_at new.blocks block)) ∙ more.blocks block (shown_is (kept_at old.blocks block) ∙ there)
]

has_first : (first : ℕ) (old new : PagesState) → HasMore first old new → has new first ≡ true
has_first first old new more = elim (nat_eq first 0) as (λ b. nat_eq first 0 ≡ b → (if b then is_some new.tables else is_some (kept_at new.blocks first)) ≡ true) [
  | true ↦ λ none. more.tables_there (eqb-true first 0 none)
  | false ↦ λ some. (let apart : first ≢ 0 = eqb-false first 0 some in sym (shown_is (kept_at new.blocks first)) ∙ more.block_there (omega (arith, apart)))
] refl

-- ---- the ticket of a call in flight

pub holds_ticket : {F D : Type 0} (core : CoreState F D) (ticket : Ticket) (done : Bool) → SeatHasTicket done ((sight_of core).seats ticket.caller) ticket → (of : HoldsTicket core ticket) × (of.flight.answered ≡ done)
holds_ticket core ticket done given =
    let here = seated (slice_get core.callers ticket.caller) given.flight given.here in
    (record { mine = here.0; here = here.1; flight = given.flight; flies = here.2; held = given.mine }, given.answered)

-- a call without an entry is the last that its caller began
pub last_begun : {F D : Type 0} (told : D → Option Image) (faults : D → ℕ) (core : CoreState F D) → Right told faults core → (caller : ℕ) (mine : CallerState) (flight : Flight) → slice_get core.callers caller ≡ Some mine → mine.flight ≡ Some flight
    → flight.answered ≡ false → flight.ordinal ≡ mine.begun
last_begun told faults core r caller mine flight here flies unanswered = (r.orderly.numbered.waiting caller mine here flight (open_is mine.flight flight flies unanswered)).last

pub skipped : {F D : Type 0} (core new : CoreState F D) (ticket : Ticket) (mine now : ℕ) → IsSkipped core new ticket mine now → ticket.incarnation ≢ core.incarnation
skipped core new ticket mine now is = λ same. is.other (is.mine_is ∙ same ∙ sym is.now_is)

-- ---- the whole

module _ {F D : Type 0} (told : D → Option Image) (faults : D → ℕ) (core : CoreState F D) (r : Right told faults core) (new : CoreState F D) (ticket : Ticket) (need : Need) (asked : IsAsked need) (before now : PagesState) where
  module _ (mine : CallerState) (here : slice_get core.callers ticket.caller ≡ Some mine) (by : KeepsGathered told core new ticket.caller need mine before now) where
    got : Got told core.cache new.cache core.tables need.first mine by.kept before now
    got = elim (cases_lt 0 need.first) [
      | inl some ↦ blocks_gathered told core.cache new.cache core.tables mine need by.kept before now (by.blocks (omega (arith, some))) (omega (arith, some)) asked.some
      | inr none ↦ (let zero_is : 0 ≡ need.first = omega (arith, none) in
          subst (λ n. Got told core.cache new.cache core.tables n mine by.kept before now) zero_is
          (tables_gathered told core.cache new.cache core.tables mine (live_copy core.tables) by.kept before now refl (by.tables (sym zero_is))))
    ]

    with_sessions : HasTablesFor (length core.config.callers) before → HasTablesFor (length core.config.callers) now
    with_sessions given = elim (cases_lt 0 need.first) [
      | inl some ↦ subst (HasTablesFor (length core.config.callers)) (sym (by.blocks (omega (arith, some))).got_is) given
      | inr none ↦ subst (HasTablesFor (length core.config.callers)) (sym (by.tables (omega (arith, none))).got_is) (r.orderly.sessions ∙ r.orderly.numbered.callers_are)
    ]

    -- what the caller has grows, where it had none of the blocks
    gathered_more : LacksAll before need → PagesGrow before now
    gathered_more lacks = elim (cases_lt 0 need.first) [
      | inl some ↦ (let blocks = by.blocks (omega (arith, some)) in subst (PagesGrow before) (sym blocks.got_is) (blocks_grow before need lacks blocks.reads (omega (arith, some)) blocks.numbers_are))
      | inr none ↦ (let zero_is : need.first ≡ 0 = omega (arith, none) in subst (PagesGrow before) (sym (by.tables zero_is).got_is) (tables_grow before need lacks (live_copy core.tables) zero_is asked.some))
    ]

    abbrev grown : CallerState
    grown = record mine { pages = by.kept.pages; undo = by.kept.undo }

    gains : new ≡ with_room (gathering core new.cache.disk ticket.caller mine by.kept.pages by.kept.undo new.cache.pins new.cache.room) new → Gains ticket.caller (sight_of core) (sight_of new) need before now
    gains event =
        let stored = ap (λ (c : CoreState F D). c.callers) event in
        let own = own_now core new ticket.caller grown stored mine here in
        let begun_is = begun_now core new ticket.caller grown stored mine here in
        let opened = open_now core new ticket.caller grown stored mine here in
        let stamps = ap (λ (c : CoreState F D). c.cache.stamps) event in
        let tables = ap (λ (c : CoreState F D). c.tables) event in
        record {
          stays = stays_at core new ticket.caller grown stored (ap (λ (c : CoreState F D). c.config) event) (ap (λ (c : CoreState F D). c.journal.records) event) (ap (λ (c : CoreState F D). c.stage) event) (ap (λ (c : CoreState F D). c.incarnation) event);
          mine = seat_now core new ticket.caller grown stored mine here ∙ sym (ap seat_of here);
          counts = record { history = ap (λ (c : CoreState F D). c.journal.history) event; begun = omega (arith, begun_is); open_calls = omega (arith, opened) };
          log = keeps_log core new (ap (λ (c : CoreState F D). c.journal.sealed_at) event) (ap (λ (c : CoreState F D). c.journal.oplog) event) (marks_none core.journal.trail new.journal.trail (ap (λ (c : CoreState F D). c.journal.trail) event));
          floor = ap (λ (c : CoreState F D). c.floor) event;
          same = λ was. ap pages_kept own ∙ sym (got.alike (sym was ∙ ap pages_kept here));
          stales = ap stales_of own ∙ sym (ap stales_of here);
          fresh = λ was. rw (stamps, tables, own) (tests_fresh core.cache.stamps core.tables by.kept.pages
              (gathers_fresh core.cache.stamps core.tables mine.pages by.kept.pages got.event.gathers (holds_fresh core.cache.stamps core.tables mine.pages
              (sym (ap (λ (o : Option CallerState). is_fresh core.cache.stamps core.tables (pages_kept o)) here) ∙ was))));
          got = has_first need.first before now got.more;
          keeps = keeps_all need.first before now got.more;
          grows = gathered_more;
          tables = with_sessions;
          trail = ap (λ (c : CoreState F D). c.journal.trail) event;
        }

  pub gathers_are : (answer : Gathered) → IsUnanswered core ticket
      → ((mine : CallerState) (flight : Flight) → slice_get core.callers ticket.caller ≡ Some mine → mine.flight ≡ Some flight → Gathering told faults core new ticket need mine flight before now answer)
      → GathersInSight (sight_of core) (sight_of new) ticket need before now answer
  gathers_are (gathered.Skip was present) of by =
      let its = by of.0.mine of.0.flight of.0.here of.0.flies in
      (skipped core new ticket was present its.0, ap sight_of its.0.same, its.1)
  gathers_are gathered.Device of by =
      let its = by of.0.mine of.0.flight of.0.here of.0.flies in (
        its.0,
        λ flight flown.
            (let at = seated (slice_get core.callers ticket.caller) flight flown in
            let mine_is : at.0 ≡ of.0.mine = same_Some at.0 of.0.mine (sym at.1 ∙ of.0.here) in
            let flight_is : flight ≡ of.0.flight = same_Some flight of.0.flight (sym at.2 ∙ ap (λ (d : CallerState). d.flight) mine_is ∙ of.0.flies) in
            subst (λ (f : Flight). Answers ticket.caller f reply.Device (sight_of core) (sight_of new)) (sym flight_is)
            (answered (with_disk core new.cache.disk) new ticket.caller of.0.mine of.0.here of.0.flight of.0.flies of.1 (last_begun told faults core r ticket.caller of.0.mine of.0.flight of.0.here of.0.flies of.1) reply.Device new.cache.pins its.2)),
        runs_now told faults core r ticket of.0 its.0,
      )
  gathers_are gathered.NoMemory of by = let its = by of.0.mine of.0.flight of.0.here of.0.flies in (ap sight_of its.1, its.2)
  gathers_are gathered.Done of by = let its = by of.0.mine of.0.flight of.0.here of.0.flies in (its.0, gains of.0.mine of.0.here its.1 its.2)

  -- what the core was begun on stays
  pub gathers_begun : (answer : Gathered) → IsUnanswered core ticket
      → ((mine : CallerState) (flight : Flight) → slice_get core.callers ticket.caller ≡ Some mine → mine.flight ≡ Some flight → Gathering told faults core new ticket need mine flight before now answer)
      → origin_of new ≡ origin_of core
  gathers_begun (gathered.Skip was present) of by = ap origin_of (by of.0.mine of.0.flight of.0.here of.0.flies).0.same
  gathers_begun gathered.Device of by = ap origin_of (by of.0.mine of.0.flight of.0.here of.0.flies).2
  gathers_begun gathered.NoMemory of by = ap origin_of (by of.0.mine of.0.flight of.0.here of.0.flies).1
  gathers_begun gathered.Done of by = ap origin_of (by of.0.mine of.0.flight of.0.here of.0.flies).2
