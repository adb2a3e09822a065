-- A call that begins, enters, gathers, is stale or is logged keeps what holds on every disk.
use Rattle.std.proofs.Common.{inl, inr, List, [], ◌∷◌, ◌++◌, ℕ, zero, suc, ◌+◌, ◌≡◌, ◌≢◌, ◌<◌, ◌≤◌, Bool, true, false, Option, Some, None, length, slice_get, slice_set, refl, ap, sym, ◌∙◌, subst, arith, length-append}
use Rattle.std.proofs.lemmas.List.{append-nil, length-set}
use Rattle.std.proofs.lemmas.List.Elements.{Contains-append_right}
use Rattle.std.specs.Prelude.{if◌then◌else◌, nat_le, option_map, unwrap_or}
use Rattle.mb_kinds.specs.declared.calls.Call.{Call}
use Rattle.mb_kinds.specs.declared.entries.Entry.{Entry}
use Rattle.mb_kinds.specs.declared.entries.Flight.{Flight}
use Rattle.mb_kinds.specs.declared.faults.Ticket.{Ticket}
use Rattle.mb_kinds.specs.declared.replies.Reply.{Reply}
use Rattle.mb_kinds.specs.declared.replies.Reply.TheVariants as reply
use Rattle.mb_tree.specs.SessionLaws.{IsCall}
use Rattle.mb_tree.specs.Sessions.{changed, with_change}
use Rattle.mb_tree.specs.declared.operations.FsOp.{FsOp}
use Rattle.mb_tree.specs.declared.seats.Seat.{Seat}
use Rattle.mb_tree.specs.declared.seats.SessionChange.{SessionChange}
use Rattle.mb_cache.specs.State.{CacheRoom}
use Rattle.mb_cache.specs.Stamps.{Stamps, stamp_of}
use Rattle.mb_core_spec.specs.Trail as trail
use Rattle.mb_core_spec.specs.Trail.Mode.{Runs, Struck}
use Rattle.mb_core_spec.specs.declared.ready.Ready.{Ready}
use Rattle.mb_core_spec.specs.declared.stages.Stage.{Stage}
use Rattle.mb_core_spec.specs.declared.stages.Stage.TheVariants as stage
use Rattle.mb_core_spec.specs.declared.steps.Step.TheVariants as step
use Rattle.mb_gate.specs.declared.ulogs.Undo.{Undo}
use Rattle.mb_core_order.proofs.Beginning.{each_set, numbered_begins}
use Rattle.mb_core_order.proofs.Callings.{keeps_flight, total_open}
use Rattle.mb_core_order.proofs.Keepings.{others_cwds, first_undo_pins, tables_may_move, answered_grows, floor_given, floor_kept, floor_taken, floor_undo_pins, flying_enters, flying_logs, gathers_fresh, gathers_keeps, insiders_set, no_copies, none_fresh, others_session, pins_follow, pins_given, stamps_log, undoable_back, undoable_given, undoable_stale, undoable_taken, without_mine}
use Rattle.mb_core_order.proofs.Numbers.{KeepsCall, numbered_answers, numbered_keeps}
use Rattle.mb_core_order.proofs.Orderlies.{flying_at, mode_at, numbered_rest}
use Rattle.mb_core_order.proofs.Overlays.{same_some}
use Rattle.mb_core_order.proofs.Traces.{Takes, fresh_again, takes_enters, takes_stays, trailed_moves, trailed_quiet}
use Rattle.mb_core_order.proofs.Trailing.{in_place, is_placed, keys_more, placed_is, plain_more}
use Rattle.mb_core_spec.specs.Bounds.{HasMarks, StampsAreFew, replayed}
use Rattle.mb_core_spec.specs.Callers.{EachCaller, insiders, one_if, total}
use Rattle.mb_core_spec.specs.Copies.{HoldsFloor, KeepsCopies, LiveTables, PagesState, cwds}
use Rattle.mb_core_spec.specs.Events.{beginning, begins, Gathers, GivesBack, Leaves, entering, entry_for, floor_after, gathering, gathers_anew, goes_in, logged_op, logging, roomy, staling, taken_back, without}
use Rattle.mb_core_spec.specs.Faults.{Says}
use Rattle.mb_core_spec.specs.Flights.{HasTicket, IsAnswered, IsFlying, IsTicket, IsUndoable, MayBeInside, is_pin, runs}
use Rattle.mb_core_spec.specs.Numbers.{is_open, open_calls, open_flight}
use Rattle.mb_core_spec.specs.Right.{IsOrderly}
use Rattle.mb_core_spec.specs.State.{CallerState, CoreState, JournalRoom}
use Rattle.mb_core_spec.specs.Traced.{IsMode, IsPlacedAt, IsSeatedAt}
use Rattle.mb_core_spec.specs.Flights.{IsMine}
use Rattle.mb_core_spec.specs.Owed.{IsPlain, Rises, TablesMove}
use Rattle.mb_core_order.specs.Readings.{is_cwd}
use Rattle.mb_core_spec.specs.Trail.{Mode, Place, at_place, is_in, key_if_plain, logged_keys, logs, next_in, plain_keys, stays}

-- ---- small facts

set_twice : {X : Type 0} (xs : List X) (at : ℕ) (one two : X) → slice_set (slice_set xs at one) at two ≡ slice_set xs at two
set_twice [] at one two = refl
set_twice (x ∷ xs) zero one two = refl
set_twice (x ∷ xs) (suc at) one two = ap (λ rest. x ∷ rest) (set_twice xs at one two)

few_insiders : (callers : List CallerState) → insiders callers ≤ length callers
few_insiders [] = omega arith
few_insiders (d ∷ callers) = let rest = few_insiders callers in let one = at_most d.inside in omega (arith, rest, one)
  where
    at_most : (b : Bool) → one_if b ≤ 1
    at_most true = omega arith
    at_most false = omega arith

-- who has the floor after a stale answer of another had it before
floor_was : (at caller stales : ℕ) (floor : Option ℕ) → caller ≢ at → floor_after at stales floor ≡ Some caller → floor ≡ Some caller
floor_was at caller stales floor apart = elim (nat_le 3 stales) as (λ b. (if b then Some at else floor) ≡ Some caller → floor ≡ Some caller) [
  | true ↦ λ is. absurd (apart (sym (same_some at caller is)))
  | false ↦ λ is. is
]

with_change_length : (seats : List Seat) (at : ℕ) (made : SessionChange) → length (with_change seats at made) ≡ length seats
with_change_length seats at made = elim (slice_get seats at) as (λ (o : Option Seat). length (unwrap_or (option_map (λ seat. slice_set seats at (changed seat made)) o) seats) ≡ length seats) [
  | None ↦ refl
  | Some seat ↦ length-set seats at (changed seat made)
]

takes_logs : (mine new : CallerState) (flight : Flight) (ticket : Ticket) (place : Place) → IsSeatedAt mine place → mine.flight ≡ Some flight → flight.ticket ≡ Some ticket → mine.inside ≡ true → ticket.ordinal ≡ flight.ordinal → new.begun ≡ mine.begun
    → flight.answered ≡ false → new.flight ≡ Some (record flight { answered = true }) → new.inside ≡ true → Takes (logs ticket) place new
takes_logs mine new flight ticket place seat flies held inside ordinal begun unanswered logged still =
    let placed : IsPlacedAt true place flight ticket = placed_is mine.inside place mine.flight flight ticket flies inside held seat.placed in
    let here : is_in ticket place ≡ true = in_place ticket place (placed.ordinal ∙ sym ordinal) placed.incarnation (placed.inside refl) in
    let fresh : place.logged ≡ false = placed.logged ∙ unanswered in
    record {
      after = record place { logged = true };
      takes = rw (here, fresh) refl;
      seated = record {
        begun = (let low = seat.begun in omega (arith, low, begun));
        placed = is_placed new.inside (record place { logged = true }) new.flight (record flight { answered = true }) ticket logged still held (record { ordinal = placed.ordinal; incarnation = placed.incarnation; logged = refl; inside = placed.inside });
      };
    }

module _ {F D : Type 0} (core : CoreState F D) (o : IsOrderly core) (at : ℕ) (mine : CallerState) (has : slice_get core.callers at ≡ Some mine) where
  -- ---- a call begins, and waits

  module _ (call : Call) (good : IsCall call) (free : mine.flight ≡ None) (low : mine.begun < core.config.most) (room : JournalRoom) (left : Leaves core.journal.room room 0 0) (space : open_calls core.callers + 1 ≤ room.history) where
    abbrev started : CallerState
    started = begins core.config.start core.callers mine call

    outside : mine.inside ≡ false
    outside = subst (IsFlying at mine.inside (runs core.stage) core.incarnation mine.answer) free (o.flying at mine has)

    pub orderly_waits : IsOrderly (record core { callers = slice_set core.callers at started; journal = record core.journal { room = room } })
    orderly_waits =
        let opened = total_open core o at mine has started in
        let none : one_if (is_open (open_flight mine.flight)) ≡ 0 = ap (λ f. one_if (is_open (open_flight f))) free in
        let same : insiders (slice_set core.callers at started) ≡ insiders core.callers = (let both = insiders_set core.callers at mine started has in omega (arith, both)) in
        record {
          numbered = numbered_rest core.config core.journal (slice_set core.callers at started) core.stage core.journal.trail core.journal.oplog core.journal.sealed_at room
              (numbered_begins core.config core.journal core.callers core.stage o.numbered at mine has call good free low);
          trailed = trailed_quiet core.journal core.callers core.stage o.trailed at mine started has (λ within. within)
              (λ place seat. record { begun = (let first = seat.begun in omega (arith, first)); placed = (let first = seat.begun in omega (arith, first)) }) core.journal.history room refl;
          flying = each_set (λ caller d. IsFlying caller d.inside (runs core.stage) core.incarnation d.answer d.flight) core.callers at mine started has
              (record { ticket = (outside, refl); logged = λ done. absurd (let wrong : false ≡ true = done in cc) }) (λ caller d apart is. o.flying caller d is);
          answers = each_set (λ caller d. IsAnswered caller core.journal.history d) core.callers at mine started has
              (λ flight flies done. absurd (let wrong : false ≡ true = ap (λ (f : Flight). f.answered) (same_some _ flight flies) ∙ done in cc)) (λ caller d apart is. o.answers caller d is);
          unwound = each_set (λ caller d. MayBeInside core.stage d.inside) core.callers at mine started has (o.unwound at mine has) (λ caller d apart is. o.unwound caller d is);
          copies = λ now. each_set (λ caller d. KeepsCopies caller core.cache.stamps core.tables d.pages) core.callers at mine started has (o.copies now at mine has) (λ caller d apart is. o.copies now caller d is);
          undoable = each_set (λ caller d. IsUndoable caller core.floor d) core.callers at mine started has (let u = o.undoable at mine has in record { outside = u.outside; stales = u.stales; fourth = u.fourth }) (λ caller d apart is. o.undoable caller d is);
          pinned = pins_follow core.cache.pins core.cache.pins core.callers at mine started has o.pinned (λ block. refl);
          floor = floor_kept core.callers at mine started core.floor has (λ within. within) o.floor;
          fresh = λ now. each_set (λ caller d. core.floor ≡ Some caller → HoldsFloor core.cache.stamps core.tables d.pages) core.callers at mine started has (o.fresh now at mine has) (λ caller d apart is. o.fresh now caller d is);
          incarnation = o.incarnation;
          marks = subst (λ n. HasMarks core.stage n room) (sym same) (roomier core.stage (insiders core.callers) core.journal.room room (let t = left.trail in omega (arith, t)) left.records o.marks);
          entries = omega (arith, opened, none, space);
          stamps = o.stamps;
          logged = o.logged;
          sessions = o.sessions ∙ sym (length-set core.callers at started);
          saved = o.saved ∙ sym (length-set core.callers at started);
          dropped = o.dropped;
          within = o.within;
          bounds = o.bounds;
          changes = o.changes;
        }
      where
        roomier : (now : Stage) (inside : ℕ) (room left : JournalRoom) → room.trail ≤ left.trail → room.records ≤ left.records → HasMarks now inside room → HasMarks now inside left
        roomier stage.Running inside room left trail records had = λ some. (let both = had some in let t = both.0 in let r = both.1 in (omega (arith, t, trail), omega (arith, r, records)))
        roomier stage.Struck inside room left trail records had = omega (arith, had, trail)
        roomier stage.Again inside room left trail records had = omega (arith, had, trail)
        roomier stage.Dropped inside room left trail records had = tt
        roomier stage.Remounted inside room left trail records had = tt
        roomier (stage.Restored done) inside room left trail records had = tt
        roomier stage.Failed inside room left trail records had = tt

  -- ---- a call in flight enters, for the first time or again

  module _ (flight : Flight) (flies : mine.flight ≡ Some flight) (unanswered : flight.answered ≡ false) (out : mine.inside ≡ false) (is : core.stage ≡ stage.Running)
      (ticket : Ticket) (whose : ticket.caller ≡ at) (ordinal : ticket.ordinal ≡ flight.ordinal) (moment : ticket.moment ≡ flight.moment) (present : ticket.incarnation ≡ core.incarnation) (reserved : Option ℕ)
      (room : JournalRoom) (marks : 11 ≤ room.trail) (records : 1 ≤ room.records) (left : core.journal.room.history ≤ room.history) where
    abbrev inner : CallerState
    inner = goes_in mine flight ticket reserved

    same_begun : inner.begun ≡ mine.begun
    same_begun = refl

    waits_open : open_flight mine.flight ≡ Some flight
    waits_open = ap open_flight flies ∙ ap (λ b. if b then None else Some flight) unanswered

    keeps_inner : KeepsCall mine inner
    keeps_inner g is_open_now =
        let one : record flight { ticket = Some ticket } ≡ g = same_some _ g (sym (ap (λ b. if b then None else Some (record flight { ticket = Some ticket })) unanswered) ∙ is_open_now) in
        (flight, waits_open, record { ordinal = sym (ap (λ (f : Flight). f.ordinal) one); moment = sym (ap (λ (f : Flight). f.moment) one); call = sym (ap (λ (f : Flight). f.call) one) })

    had_ticket : HasTicket at flight false true core.incarnation flight.ticket
    had_ticket = (subst (λ b. IsFlying at b true core.incarnation mine.answer (Some flight)) out (subst (IsFlying at mine.inside true core.incarnation mine.answer) flies (flying_at core o stage.Running is at mine has))).ticket

    low_number : flight.ordinal ≤ mine.begun
    low_number = let last = (o.numbered.waiting at mine has flight waits_open).last in omega (arith, last)

    pub orderly_enters : IsOrderly (roomy (entering core at mine flight ticket reserved) room)
    orderly_enters =
        let both = insiders_set core.callers at mine inner has in
        let was : one_if mine.inside ≡ 0 = ap one_if out in
        let few = few_insiders (slice_set core.callers at inner) in
        let long = length-set core.callers at inner in
        let eight = o.bounds.callers in
        let many = o.numbered.callers_are in
        let runs_now : IsMode core.stage Runs (slice_set core.callers at inner) = subst (λ s. IsMode s Runs (slice_set core.callers at inner)) (sym is) refl in
        let mode = mode_at core o stage.Running is in
        record {
          numbered = numbered_rest core.config core.journal (slice_set core.callers at inner) core.stage _ core.journal.oplog core.journal.sealed_at room
              (numbered_keeps core.config core.journal core.callers core.stage o.numbered at mine has inner same_begun keeps_inner);
          trailed = trailed_moves core.journal core.callers core.stage core.stage o.trailed at mine has ticket whose (trail.enters ticket) (step.Entered ticket) inner Runs o.trailed.watch.since
              (ap (λ m. next_in o.trailed.watch m (step.Entered ticket)) mode ∙ ap (λ m. at_place (record o.trailed.watch { mode = m }) ticket (trail.enters ticket)) mode)
              (λ place seat. takes_enters mine inner flight ticket place (fresh_again mine flight ticket place core.incarnation at flies out had_ticket seat unanswered ordinal present) refl refl unanswered ordinal
              (let low = low_number in let begun = same_begun in omega (arith, low, begun)))
              runs_now core.journal.history core.journal.oplog room o.trailed.covers (o.trailed.plain ∙ sym (keys_more core.journal.trail (step.Entered ticket) ∙ append-nil (logged_keys core.journal.trail)));
          flying = each_set (λ caller d. IsFlying caller d.inside (runs core.stage) core.incarnation d.answer d.flight) core.callers at mine inner has
              (subst (λ b. IsFlying at true b core.incarnation mine.answer inner.flight) (sym (ap runs is)) (flying_enters at core.incarnation mine.answer flight ticket unanswered whose ordinal moment present)) (λ caller d apart at_it. o.flying caller d at_it);
          answers = each_set (λ caller d. IsAnswered caller core.journal.history d) core.callers at mine inner has
              (λ f f_is done. absurd (let wrong : false ≡ true = sym unanswered ∙ ap (λ (x : Flight). x.answered) (same_some _ f f_is) ∙ done in cc)) (λ caller d apart at_it. o.answers caller d at_it);
          unwound = subst (λ s. EachCaller (λ caller d. MayBeInside s d.inside) (slice_set core.callers at inner)) (sym is) (λ caller d at_it. tt);
          copies = λ now. each_set (λ caller d. KeepsCopies caller core.cache.stamps core.tables d.pages) core.callers at mine inner has (o.copies now at mine has) (λ caller d apart at_it. o.copies now caller d at_it);
          undoable = each_set (λ caller d. IsUndoable caller core.floor d) core.callers at mine inner has (record { outside = λ within. absurd (let wrong : true ≡ false = within in cc); stales = omega arith; fourth = λ four. absurd (omega (arith, four)) })
              (λ caller d apart at_it. o.undoable caller d at_it);
          pinned = pins_follow core.cache.pins core.cache.pins core.callers at mine inner has o.pinned (λ block. (let none = first_undo_pins reserved block in
              let empty : total (is_pin block) mine.undo ≡ 0 = ap (λ steps. total (is_pin block) steps) ((o.undoable at mine has).outside out).0 in omega (arith, none, empty)));
          floor = floor_kept core.callers at mine inner core.floor has (λ within. refl) o.floor;
          fresh = λ now. each_set (λ caller d. core.floor ≡ Some caller → HoldsFloor core.cache.stamps core.tables d.pages) core.callers at mine inner has (o.fresh now at mine has) (λ caller d apart at_it. o.fresh now caller d at_it);
          incarnation = o.incarnation;
          marks = subst (λ s. HasMarks s (insiders (slice_set core.callers at inner)) room) (sym is) (λ some. (omega (arith, few, long, eight, many, marks), records));
          entries = (let fit = o.entries in let opened = total_open core o at mine has inner in
              let one : one_if (is_open (open_flight mine.flight)) ≡ 1 = ap (λ f. one_if (is_open f)) waits_open in
              let two : one_if (is_open (open_flight inner.flight)) ≡ 1 = ap (λ b. one_if (is_open (if b then None else Some (record flight { ticket = Some ticket })))) unanswered in
              omega (arith, fit, left, opened, one, two));
          stamps = o.stamps;
          logged = o.logged;
          sessions = o.sessions ∙ sym (length-set core.callers at inner);
          saved = o.saved ∙ sym (length-set core.callers at inner);
          dropped = o.dropped;
          within = o.within;
          bounds = o.bounds;
          changes = o.changes;
        }

  -- ---- a call inside gathers

  pub orderly_gathers : (disk : D) (pages : PagesState) (steps : List Undo) (pins : Stamps) (room : CacheRoom) → mine.inside ≡ true → Gathers core.cache.stamps core.tables mine.pages pages
      → ((block : ℕ) → stamp_of pins block + total (is_pin block) mine.undo ≡ stamp_of core.cache.pins block + total (is_pin block) steps) → IsOrderly (gathering core disk at mine pages steps pins room)
  orderly_gathers disk pages steps pins room inside gathers pinned =
      let new : CallerState = record mine { pages = pages; undo = steps } in
      let same : insiders (slice_set core.callers at new) ≡ insiders core.callers = (let both = insiders_set core.callers at mine new has in omega (arith, both)) in
      record {
        numbered = numbered_keeps core.config core.journal core.callers core.stage o.numbered at mine has new refl (keeps_flight mine new refl);
        trailed = trailed_quiet core.journal core.callers core.stage o.trailed at mine new has (λ within. within) (λ place seat. record { begun = seat.begun; placed = seat.placed }) core.journal.history core.journal.room refl;
        flying = each_set (λ caller d. IsFlying caller d.inside (runs core.stage) core.incarnation d.answer d.flight) core.callers at mine new has (o.flying at mine has) (λ caller d apart at_it. o.flying caller d at_it);
        answers = each_set (λ caller d. IsAnswered caller core.journal.history d) core.callers at mine new has (o.answers at mine has) (λ caller d apart at_it. o.answers caller d at_it);
        unwound = each_set (λ caller d. MayBeInside core.stage d.inside) core.callers at mine new has (o.unwound at mine has) (λ caller d apart at_it. o.unwound caller d at_it);
        copies = λ now. each_set (λ caller d. KeepsCopies caller core.cache.stamps core.tables d.pages) core.callers at mine new has (gathers_keeps at core.cache.stamps core.tables mine.pages pages gathers (o.copies now at mine has)) (λ caller d apart at_it. o.copies now caller d at_it);
        undoable = each_set (λ caller d. IsUndoable caller core.floor d) core.callers at mine new has
            (let u = o.undoable at mine has in record { outside = λ out. absurd (let wrong : true ≡ false = sym inside ∙ out in cc); stales = u.stales; fourth = u.fourth }) (λ caller d apart at_it. o.undoable caller d at_it);
        pinned = pins_follow core.cache.pins pins core.callers at mine new has o.pinned pinned;
        floor = floor_kept core.callers at mine new core.floor has (λ within. within) o.floor;
        fresh = λ now. each_set (λ caller d. core.floor ≡ Some caller → HoldsFloor core.cache.stamps core.tables d.pages) core.callers at mine new has
            (λ holds. gathers_fresh core.cache.stamps core.tables mine.pages pages gathers (o.fresh now at mine has holds)) (λ caller d apart at_it. o.fresh now caller d at_it);
        incarnation = o.incarnation;
        marks = subst (λ n. HasMarks core.stage n core.journal.room) (sym same) o.marks;
        entries = (let fit = o.entries in let opened = total_open core o at mine has new in omega (arith, fit, opened));
        stamps = o.stamps;
        logged = o.logged;
        sessions = o.sessions ∙ sym (length-set core.callers at new);
        saved = o.saved ∙ sym (length-set core.callers at new);
        dropped = o.dropped;
        within = o.within;
        bounds = o.bounds;
        changes = o.changes;
      }

  -- ---- a call inside finishes: stale, or logged

  module _ (flight : Flight) (flies : mine.flight ≡ Some flight) (unanswered : flight.answered ≡ false) (ticket : Ticket) (held : flight.ticket ≡ Some ticket) (inside : mine.inside ≡ true) (ordinal : ticket.ordinal ≡ flight.ordinal)
      (whose : ticket.caller ≡ at) (is : core.stage ≡ stage.Running) (mine_floor : IsMine at core.floor) (pins : Stamps) (gives : GivesBack core.cache.pins pins mine.undo)
      (room : JournalRoom) (marks : (insiders core.callers + 2 ≤ room.trail) × (1 ≤ room.records)) (left : core.journal.room.history ≤ room.history + 1) where
    mode_is : o.trailed.watch.mode ≡ Runs
    mode_is = mode_at core o stage.Running is

    same_in : (new : CallerState) → new.inside ≡ mine.inside → insiders (slice_set core.callers at new) ≡ insiders core.callers
    same_in new same = let both = insiders_set core.callers at mine new has in let one : one_if new.inside ≡ one_if mine.inside = ap one_if same in omega (arith, both, one)

    marks_then : (new : CallerState) → new.inside ≡ mine.inside → HasMarks core.stage (insiders (slice_set core.callers at new)) room
    marks_then new same = subst (λ s. HasMarks s (insiders (slice_set core.callers at new)) room) (sym is) (let as_many = same_in new same in let t = marks.0 in λ some. (omega (arith, as_many, t), marks.1))

    pub orderly_stale : (block : ℕ) → core.journal.room.history ≤ room.history → IsOrderly (roomy (staling core at mine ticket block pins) room)
    orderly_stale block kept_room =
        let new : CallerState = gathers_anew mine at (floor_after at mine.stales core.floor) in
        record {
          numbered = numbered_rest core.config core.journal (slice_set core.callers at new) core.stage _ core.journal.oplog core.journal.sealed_at room
              (numbered_keeps core.config core.journal core.callers core.stage o.numbered at mine has new refl (keeps_flight mine new refl));
          trailed = trailed_moves core.journal core.callers core.stage core.stage o.trailed at mine has ticket whose (stays ticket) (step.Stale ticket block) new Runs o.trailed.watch.since
              (ap (λ m. next_in o.trailed.watch m (step.Stale ticket block)) mode_is ∙ ap (λ m. at_place (record o.trailed.watch { mode = m }) ticket (stays ticket)) mode_is)
              (λ place seat. takes_stays mine new flight ticket place seat flies held inside ordinal refl unanswered refl refl)
              (subst (λ s. IsMode s Runs (slice_set core.callers at new)) (sym is) refl)
              core.journal.history core.journal.oplog room o.trailed.covers (o.trailed.plain ∙ sym (keys_more core.journal.trail (step.Stale ticket block) ∙ append-nil (logged_keys core.journal.trail)));
          flying = each_set (λ caller d. IsFlying caller d.inside (runs core.stage) core.incarnation d.answer d.flight) core.callers at mine new has (o.flying at mine has) (λ caller d apart at_it. o.flying caller d at_it);
          answers = each_set (λ caller d. IsAnswered caller core.journal.history d) core.callers at mine new has (o.answers at mine has) (λ caller d apart at_it. o.answers caller d at_it);
          unwound = each_set (λ caller d. MayBeInside core.stage d.inside) core.callers at mine new has (o.unwound at mine has) (λ caller d apart at_it. o.unwound caller d at_it);
          copies = λ now. each_set (λ caller d. KeepsCopies caller core.cache.stamps core.tables d.pages) core.callers at mine new has (no_copies at core.cache.stamps core.tables) (λ caller d apart at_it. o.copies now caller d at_it);
          undoable = each_set (λ caller d. IsUndoable caller (floor_after at mine.stales core.floor) d) core.callers at mine new has (undoable_stale at core.floor mine new inside refl)
              (λ caller d apart at_it. undoable_taken at caller core.floor d mine.stales apart mine_floor (o.undoable caller d at_it));
          pinned = pins_follow core.cache.pins pins core.callers at mine new has o.pinned (pins_given core.cache.pins pins mine new gives (floor_undo_pins at (floor_after at mine.stales core.floor) mine.reserved));
          floor = floor_taken core.callers at mine new core.floor has inside o.floor mine.stales;
          fresh = λ now. each_set (λ caller d. floor_after at mine.stales core.floor ≡ Some caller → HoldsFloor core.cache.stamps core.tables d.pages) core.callers at mine new has (λ holds. none_fresh core.cache.stamps core.tables)
              (λ caller d apart at_it holds. o.fresh now caller d at_it (floor_was at caller mine.stales core.floor apart holds));
          incarnation = o.incarnation;
          marks = marks_then new refl;
          entries = (let fit = o.entries in let opened = total_open core o at mine has new in omega (arith, fit, opened, kept_room));
          stamps = o.stamps;
          logged = o.logged;
          sessions = o.sessions ∙ sym (length-set core.callers at new);
          saved = o.saved ∙ sym (length-set core.callers at new);
          dropped = o.dropped;
          within = o.within;
          bounds = o.bounds;
          changes = o.changes;
        }

    pub orderly_logs : (new_core : CoreState F D) (ready : Ready) → IsPlain ready.reply → new_core.cache.pins ≡ pins → Rises core.cache.stamps new_core.cache.stamps
        → TablesMove core.tables (record core.tables { sessions = with_change core.tables.sessions at ready.session; opens = new_core.tables.opens; stamp = new_core.tables.stamp })
        → new_core.tables.stamp ≤ core.tables.stamp + 1 → IsOrderly (roomy (logging core new_core at mine flight ticket ready) room)
    orderly_logs new_core ready plain pins_are rises tables once =
        let new : CallerState = record (taken_back mine) { flight = Some (record flight { answered = true }); answer = Some ready.reply } in
        let live : LiveTables = record core.tables { sessions = with_change core.tables.sessions at ready.session; opens = new_core.tables.opens; stamp = new_core.tables.stamp } in
        let entry : Entry = entry_for at flight ready.pick ready.reply in
        let ops = logged_op ready.op ready.pick in
        let long : length (core.journal.history ++ entry ∷ []) ≡ length core.journal.history + 1 = length-append core.journal.history (entry ∷ []) in
        let longer : length (core.journal.oplog ++ ops) ≡ length core.journal.oplog + length ops = length-append core.journal.oplog ops in
        let one_op : length ops ≤ 1 = at_most_op ready.op ready.pick in
        let waits_open : open_flight mine.flight ≡ Some flight = ap open_flight flies ∙ ap (λ b. if b then None else Some flight) unanswered in
        let open_one : one_if (is_open (open_flight mine.flight)) ≡ 1 = ap (λ f. one_if (is_open f)) waits_open in
        let free : without at core.floor ≡ None = without_mine at core.floor mine_floor in
        let its : HasTicket at flight mine.inside (runs core.stage) core.incarnation flight.ticket = (subst (IsFlying at mine.inside (runs core.stage) core.incarnation mine.answer) flies (o.flying at mine has)).ticket in
        let ticket_is : IsTicket at flight mine.inside (runs core.stage) core.incarnation ticket = subst (HasTicket at flight mine.inside (runs core.stage) core.incarnation) held its in
        record {
          numbered = numbered_answers core.config core.journal core.callers core.stage o.numbered at mine has new refl flight waits_open refl entry refl refl refl refl (plain_says ready.reply plain flight.ordinal) _ _ room;
          trailed = trailed_moves core.journal core.callers core.stage core.stage o.trailed at mine has ticket whose (logs ticket) (step.Logged ticket) new Runs (o.trailed.watch.since + 1)
              (ap (λ m. next_in o.trailed.watch m (step.Logged ticket)) mode_is ∙ ap (λ m. at_place (record o.trailed.watch { mode = m; since = o.trailed.watch.since + 1 }) ticket (logs ticket)) mode_is)
              (λ place seat. takes_logs mine new flight ticket place seat flies held inside ordinal refl unanswered refl inside)
              (subst (λ s. IsMode s Runs (slice_set core.callers at new)) (sym is) refl)
              (core.journal.history ++ entry ∷ []) (core.journal.oplog ++ ops) room (let covered = o.trailed.covers in omega (arith, covered, longer, one_op))
              (plain_more core.journal.history entry ∙ ap (λ keys. keys ++ key_if_plain at flight.ordinal ready.reply) o.trailed.plain ∙ ap (λ last. logged_keys core.journal.trail ++ last) (plain_key ready.reply plain flight.ordinal
              ∙ ap (λ c. (c, flight.ordinal) ∷ []) (sym whose) ∙ ap (λ n. (ticket.caller, n) ∷ []) (sym ordinal)) ∙ sym (keys_more core.journal.trail (step.Logged ticket)));
          flying = each_set (λ caller d. IsFlying caller d.inside (runs core.stage) core.incarnation d.answer d.flight) core.callers at mine new has
              (flying_logs at mine.inside (runs core.stage) core.incarnation mine.answer ready.reply flight ticket held ticket_is) (λ caller d apart at_it. o.flying caller d at_it);
          answers = each_set (λ caller d. IsAnswered caller (core.journal.history ++ entry ∷ []) d) core.callers at mine new has
              (λ f f_is done. (entry, Contains-append_right core.journal.history (entry ∷ []) entry (0, omega arith, refl), refl, ap (λ (x : Flight). x.ordinal) (same_some _ f f_is), refl))
              (λ caller d apart at_it. answered_grows caller core.journal.history entry d (o.answers caller d at_it));
          unwound = each_set (λ caller d. MayBeInside core.stage d.inside) core.callers at mine new has (o.unwound at mine has) (λ caller d apart at_it. o.unwound caller d at_it);
          copies = λ now. each_set (λ caller d. KeepsCopies caller new_core.cache.stamps live d.pages) core.callers at mine new has (no_copies at new_core.cache.stamps live)
              (λ caller d apart at_it. (let keeps = o.copies now caller d at_it in record {
                old = λ block kept has_it. (let low = keeps.old block kept has_it in let up = (rises block).0 in omega (arith, low, up));
                tables = tables_may_move caller core.tables live d.pages.tables (others_session core.tables.sessions at caller ready.session apart) tables keeps.tables;
              }));
          undoable = each_set (λ caller d. IsUndoable caller (without at core.floor) d) core.callers at mine new has (undoable_back at (without at core.floor) (record mine { flight = Some (record flight { answered = true }); answer = Some ready.reply }))
              (λ caller d apart at_it. undoable_given at caller core.floor d apart (o.undoable caller d at_it));
          pinned = pins_follow core.cache.pins new_core.cache.pins core.callers at mine new has o.pinned
              (subst (λ p. (block : ℕ) → stamp_of p block + total (is_pin block) mine.undo ≡ stamp_of core.cache.pins block + 0) (sym pins_are) (pins_given core.cache.pins pins mine new gives (λ block. refl)));
          floor = floor_given core.callers at new core.floor o.floor;
          fresh = λ now caller d at_it holds. absurd (let wrong : None ≡ Some caller = sym free ∙ holds in cc);
          incarnation = o.incarnation;
          marks = marks_then new refl;
          entries = (let fit = o.entries in let opened = total_open core o at mine has new in omega (arith, fit, opened, left, open_one));
          stamps = subst (λ s. StampsAreFew (runs s) (length (core.journal.history ++ entry ∷ [])) (length core.journal.records) (replayed s) new_core.cache.stamps) (sym is)
              (subst (λ n. StampsAreFew true n (length core.journal.records) 0 new_core.cache.stamps) (sym long)
              (stamps_log (λ block. []) core.cache.stamps (length core.journal.history) (length core.journal.records) new_core.cache.stamps (λ block. (rises block).1)
              (subst (λ s. StampsAreFew (runs s) (length core.journal.history) (length core.journal.records) (replayed s) core.cache.stamps) is o.stamps)));
          logged = (let few = o.logged in omega (arith, few, long, longer, one_op));
          sessions = with_change_length core.tables.sessions at ready.session ∙ o.sessions ∙ sym (length-set core.callers at new);
          saved = o.saved ∙ sym (length-set core.callers at new);
          dropped = λ failed. absurd (let wrong : stage.Running ≡ stage.Failed = sym is ∙ failed in cc);
          within = (let none : replayed core.stage ≡ 0 = ap replayed is in omega (arith, none));
          bounds = o.bounds;
          changes = (let few = o.changes in omega (arith, few, long, once));
        }
      where
        at_most_op : (op : Option FsOp) (pick : Option ℕ) → length (logged_op op pick) ≤ 1
        at_most_op None pick = omega arith
        at_most_op (Some op) pick = omega arith

        plain_says : (answer : Reply) → IsPlain answer → (number : ℕ) → Says core.journal.records core.config.limit core.stage at number answer
        plain_says (reply.Num n) plain number = tt
        plain_says (reply.Got bytes) plain number = tt
        plain_says (reply.Info stat) plain number = tt
        plain_says (reply.Refused e) plain number = tt
        plain_says (reply.Restart first second) plain number = absurd plain
        plain_says reply.Device plain number = absurd plain
        plain_says (reply.Failed faults) plain number = absurd plain

        plain_key : (answer : Reply) → IsPlain answer → (number : ℕ) → key_if_plain at number answer ≡ (at, number) ∷ []
        plain_key (reply.Num n) plain number = refl
        plain_key (reply.Got bytes) plain number = refl
        plain_key (reply.Info stat) plain number = refl
        plain_key (reply.Refused e) plain number = refl
        plain_key (reply.Restart first second) plain number = absurd plain
        plain_key reply.Device plain number = absurd plain
        plain_key (reply.Failed faults) plain number = absurd plain

-- a call that begins and goes in at once: `enter` is the two events after each other
pub entering_begins : {F D : Type 0} (core : CoreState F D) (at : ℕ) (mine : CallerState) (call : Call) (flight : Flight) (ticket : Ticket) (reserved : Option ℕ)
    → entering (beginning core at mine call) at (begins core.config.start core.callers mine call) flight ticket reserved ≡ entering core at (begins core.config.start core.callers mine call) flight ticket reserved
entering_begins core at mine call flight ticket reserved =
    ap (λ (callers : List CallerState). record core { callers = callers; journal = record core.journal { trail = core.journal.trail ++ step.Entered ticket ∷ [] } })
    (set_twice core.callers at (begins core.config.start core.callers mine call) (goes_in (begins core.config.start core.callers mine call) flight ticket reserved))

-- the tables of a call that is logged, by the rule of block 0's stamp
pub tables_by_rule : (old : LiveTables) (new : LiveTables) (at : ℕ) (made : SessionChange) (touches : Bool) → new.sessions ≡ with_change old.sessions at made → (touches ≡ false → (new.opens ≡ old.opens) × (is_cwd made ≡ false))
    → new.stamp ≡ old.stamp + one_if touches → TablesMove old new
tables_by_rule old new at made true sessions same stamp = inr (omega (arith, stamp))
tables_by_rule old new at made false sessions same stamp = inl (omega (arith, stamp), (same refl).0, ap cwds sessions ∙ others_cwds old.sessions at made (same refl).1)
