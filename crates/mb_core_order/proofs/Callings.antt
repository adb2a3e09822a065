-- Each event of one caller keeps what holds on every disk.
use Rattle.std.proofs.Common.{if◌then◌else◌, List, [], ◌∷◌, ◌++◌, ℕ, ◌+◌, ◌≡◌, ◌≤◌, Bool, true, false, Some, None, length, slice_get, slice_set, refl, ap, sym, ◌∙◌, subst, arith, length-append}
use Rattle.std.proofs.lemmas.List.{append-nil, length-set}
use Rattle.std.proofs.lemmas.Bool.Decides.{nat_tests}
use Rattle.std.specs.Prelude.{nat_le}
use Rattle.mb_kinds.specs.declared.entries.Entry.{Entry}
use Rattle.mb_kinds.specs.declared.entries.Flight.{Flight}
use Rattle.mb_kinds.specs.declared.faults.Ticket.{Ticket}
use Rattle.mb_kinds.specs.declared.replies.Reply.{Reply}
use Rattle.mb_kinds.specs.declared.replies.Reply.TheVariants as reply
use Rattle.mb_cache.specs.Stamps.{Stamps}
use Rattle.mb_core_spec.specs.Trail.Mode.{Runs, Struck}
use Rattle.mb_core_spec.specs.declared.stages.Stage.{Stage}
use Rattle.mb_core_spec.specs.declared.stages.Stage.TheVariants as stage
use Rattle.mb_core_spec.specs.declared.steps.Step.TheVariants as step
use Rattle.mb_core_order.proofs.Beginning.{each_set}
use Rattle.mb_core_order.proofs.Keepings.{answered_grows, floor_given, flying_outside, holder_was, inside_runs, insiders_set, marks_leave, marks_unwind, no_copies, none_fresh, pins_follow, pins_given, undoable_back, undoable_given}
use Rattle.mb_core_order.proofs.Numbers.{IsSameCall, KeepsCall, numbered_answers, numbered_keeps}
use Rattle.mb_core_order.proofs.Orderlies.{marks_at, mode_at, numbered_rest}
use Rattle.mb_core_order.proofs.Overlays.{total_set}
use Rattle.mb_core_order.proofs.Traces.{mode_unwinds, takes_leaves, takes_unwinds, trailed_moves, trailed_quiet}
use Rattle.mb_core_order.proofs.Trailing.{keys_more, plain_more}
use Rattle.mb_core_spec.specs.Bounds.{HasMarks, StampsAreFew, replayed}
use Rattle.mb_core_spec.specs.Callers.{EachCaller, insiders, one_if}
use Rattle.mb_core_spec.specs.Copies.{HoldsFloor, KeepsCopies}
use Rattle.mb_core_spec.specs.Events.{GivesBack, Leaves, answered_by, ended, entry_for, leaving, roomy, taken_back, without}
use Rattle.mb_core_spec.specs.Faults.{Says}
use Rattle.mb_core_spec.specs.Flights.{ArePins, FloorIsFresh, IsAnswered, IsFloor, IsFlying, IsUndoable, MayBeInside, runs}
use Rattle.mb_core_spec.specs.Numbers.{is_open, open_calls, open_flight}
use Rattle.mb_core_spec.specs.Recovery.{unwinding}
use Rattle.mb_core_spec.specs.Right.{IsOrderly}
use Rattle.mb_core_spec.specs.State.{CallerState, CoreState, JournalRoom}
use Rattle.mb_core_spec.specs.Traced.{IsMode}
use Rattle.mb_core_spec.specs.Owed.{IsIdle}
use Rattle.mb_core_spec.specs.Trail.{at_place, key_if_plain, leaves, logged_keys, next_in, plain_keys, unwinds}

same_call : (f : Flight) → IsSameCall f f
same_call f = record { ordinal = refl; moment = refl; call = refl }

-- a caller with the same flight, or with none, has no new open call
pub keeps_flight : (mine new : CallerState) → new.flight ≡ mine.flight → KeepsCall mine new
keeps_flight mine new same g is = (g, ap open_flight (sym same) ∙ is, same_call g)

pub ends_flight : (mine new : CallerState) → open_flight new.flight ≡ None → KeepsCall mine new
ends_flight mine new none g is = absurd (let wrong : None ≡ Some g = sym none ∙ is in cc)

-- ---- the caller gives back what its call did, and its flight stays or ends

-- what stays of the parts that no entry and no step touches
pub record GivenBack {F D : Type 0} (core : CoreState F D) (at : ℕ) (new : CallerState) (pins : Stamps) : Type 0 where
  pub flying : EachCaller (λ caller d. IsFlying caller d.inside (runs core.stage) core.incarnation d.answer d.flight) (slice_set core.callers at new)
  pub unwound : EachCaller (λ caller d. MayBeInside core.stage d.inside) (slice_set core.callers at new)
  pub copies : core.stage ≡ stage.Running → EachCaller (λ caller d. KeepsCopies caller core.cache.stamps core.tables d.pages) (slice_set core.callers at new)
  pub undoable : EachCaller (λ caller d. IsUndoable caller (without at core.floor) d) (slice_set core.callers at new)
  pub pinned : ArePins pins (slice_set core.callers at new)
  pub floor : IsFloor (without at core.floor) (slice_set core.callers at new)
  pub fresh : core.stage ≡ stage.Running → FloorIsFresh (without at core.floor) core.cache.stamps core.tables (slice_set core.callers at new)

module _ {F D : Type 0} (core : CoreState F D) (o : IsOrderly core) (at : ℕ) (mine : CallerState) (has : slice_get core.callers at ≡ Some mine) where
  -- the state afterwards is outside, with its log empty
  pub gives_back : (changed_to : CallerState) (pins : Stamps) → GivesBack core.cache.pins pins mine.undo → changed_to.inside ≡ false
      → IsFlying at false (runs core.stage) core.incarnation changed_to.answer changed_to.flight → GivenBack core at (taken_back changed_to) pins
  gives_back changed_to pins gives outside flies = record {
    flying = each_set (λ caller d. IsFlying caller d.inside (runs core.stage) core.incarnation d.answer d.flight) core.callers at mine (taken_back changed_to) has
        (subst (λ b. IsFlying at b (runs core.stage) core.incarnation changed_to.answer changed_to.flight) (sym outside) flies) (λ caller d apart is. o.flying caller d is);
    unwound = each_set (λ caller d. MayBeInside core.stage d.inside) core.callers at mine (taken_back changed_to) has (inside_runs core.stage changed_to.inside outside) (λ caller d apart is. o.unwound caller d is);
    copies = λ now. each_set (λ caller d. KeepsCopies caller core.cache.stamps core.tables d.pages) core.callers at mine (taken_back changed_to) has (no_copies at core.cache.stamps core.tables) (λ caller d apart is. o.copies now caller d is);
    undoable = each_set (λ caller d. IsUndoable caller (without at core.floor) d) core.callers at mine (taken_back changed_to) has (undoable_back at (without at core.floor) changed_to)
        (λ caller d apart is. undoable_given at caller core.floor d apart (o.undoable caller d is));
    pinned = pins_follow core.cache.pins pins core.callers at mine (taken_back changed_to) has o.pinned (pins_given core.cache.pins pins mine (taken_back changed_to) gives (λ block. refl));
    floor = floor_given core.callers at (taken_back changed_to) core.floor o.floor;
    fresh = λ now. each_set (λ caller d. without at core.floor ≡ Some caller → HoldsFloor core.cache.stamps core.tables d.pages) core.callers at mine (taken_back changed_to) has (λ holds. none_fresh core.cache.stamps core.tables)
        (λ caller d apart is holds. o.fresh now caller d is (holder_was at caller core.floor holds).0);
  }

  -- whoever is gone inside leaves the room for marks
  fewer_in : (new : CallerState) → new.inside ≡ false → insiders (slice_set core.callers at new) + one_if mine.inside ≡ insiders core.callers
  fewer_in new outside = let both = insiders_set core.callers at mine new has in let none : one_if new.inside ≡ 0 = ap one_if outside in omega (arith, both, none)

  at_most_one : (b : Bool) → one_if b ≤ 1
  at_most_one true = omega arith
  at_most_one false = omega arith

  marks_fewer : (now : Stage) (inside fewer : ℕ) (room : JournalRoom) → fewer ≤ inside → HasMarks now inside room → HasMarks now fewer room
  marks_fewer stage.Running inside fewer room low has = λ some. (let both = has (omega (arith, some, low)) in let t = both.0 in (omega (arith, t, low), both.1))
  marks_fewer stage.Struck inside fewer room low has = omega (arith, has, low)
  marks_fewer stage.Again inside fewer room low has = has
  marks_fewer stage.Dropped inside fewer room low has = tt
  marks_fewer stage.Remounted inside fewer room low has = tt
  marks_fewer (stage.Restored done) inside fewer room low has = tt
  marks_fewer stage.Failed inside fewer room low has = tt

  marks_room : (now : Stage) (inside : ℕ) (room left : JournalRoom) → room.trail ≤ left.trail → room.records ≤ left.records → HasMarks now inside room → HasMarks now inside left
  marks_room stage.Running inside room left trail records has = λ some. (let both = has some in let t = both.0 in let r = both.1 in (omega (arith, t, trail), omega (arith, r, records)))
  marks_room stage.Struck inside room left trail records has = omega (arith, has, trail)
  marks_room stage.Again inside room left trail records has = omega (arith, has, trail)
  marks_room stage.Dropped inside room left trail records has = tt
  marks_room stage.Remounted inside room left trail records has = tt
  marks_room (stage.Restored done) inside room left trail records has = tt
  marks_room stage.Failed inside room left trail records has = tt

  answers_gone : (new : CallerState) (history : List Entry) → new.flight ≡ None → IsAnswered at history new
  answers_gone new history gone flight flies done = absurd (let wrong : None ≡ Some flight = sym gone ∙ flies in cc)

  -- the caller in the same flight, with its answer
  pub answers_same : (new : CallerState) → new.flight ≡ mine.flight → new.answer ≡ mine.answer → IsAnswered at core.journal.history new
  answers_same new same given flight flies done = (let one = o.answers at mine has flight (sym same ∙ flies) done in (one.0, one.1, one.2, one.3, given ∙ one.4))

  pub total_open : (new : CallerState) → open_calls (slice_set core.callers at new) + one_if (is_open (open_flight mine.flight)) ≡ open_calls core.callers + one_if (is_open (open_flight new.flight))
  total_open new = total_set (λ (d : CallerState). one_if (is_open (open_flight d.flight))) core.callers at mine new has

  open_fewer : (new : CallerState) → open_flight new.flight ≡ None → open_calls (slice_set core.callers at new) ≤ open_calls core.callers
  open_fewer new none =
      let both = total_open new in
      let gone : one_if (is_open (open_flight new.flight)) ≡ 0 = ap (λ f. one_if (is_open f)) none in
      omega (arith, both, gone)

  -- ---- a call is unwound

  module _ (flight : Flight) (flies : mine.flight ≡ Some flight) (ticket : Ticket) (held : flight.ticket ≡ Some ticket) (inside : mine.inside ≡ true) (ordinal : ticket.ordinal ≡ flight.ordinal) (whose : ticket.caller ≡ at)
      (pins : Stamps) (gives : GivesBack core.cache.pins pins mine.undo) (room : JournalRoom) (left : Leaves core.journal.room room 1 0) where
    pub orderly_unwinds : core.stage ≡ stage.Struck → ((other : ℕ) (d : CallerState) → slice_get core.callers other ≡ Some d → d.inside ≡ true → at ≤ other) → IsOrderly (roomy (unwinding core at mine ticket pins) room)
    orderly_unwinds is least =
        let new : CallerState = taken_back (record mine { inside = false }) in
        let stopped : runs core.stage ≡ false = ap runs is in
        let back = gives_back (record mine { inside = false }) pins gives refl
        (subst (λ b. IsFlying at false b core.incarnation mine.answer mine.flight) (sym stopped) (flying_outside at mine.inside false core.incarnation mine.answer mine.flight
        (subst (λ b. IsFlying at mine.inside b core.incarnation mine.answer mine.flight) stopped (o.flying at mine has)))) in
        let mode = mode_at core o stage.Struck is in
        let low : mode.0 ≤ at = mode.2 at mine has inside in
        let test : nat_le mode.0 ticket.caller ≡ true = grind (arith, nat_tests, low, whose) in
        let one : one_if mine.inside ≡ 1 = ap one_if inside in
        let fewer = fewer_in new refl in
        record {
          numbered = numbered_rest core.config core.journal (slice_set core.callers at new) core.stage _ core.journal.oplog core.journal.sealed_at room
              (numbered_keeps core.config core.journal core.callers core.stage o.numbered at mine has new refl (keeps_flight mine new refl));
          trailed = trailed_moves core.journal core.callers core.stage core.stage o.trailed at mine has ticket whose (unwinds ticket) (step.Unwound ticket) new (Struck (at + 1)) o.trailed.watch.since
              (ap (λ m. next_in o.trailed.watch m (step.Unwound ticket)) mode.1 ∙ ap (λ b. if b then at_place (record o.trailed.watch { mode = Struck (ticket.caller + 1) }) ticket (unwinds ticket) else None) test
              ∙ ap (λ c. at_place (record o.trailed.watch { mode = Struck (c + 1) }) ticket (unwinds ticket)) whose)
              (λ place seat. takes_unwinds mine new flight ticket place seat flies held inside ordinal refl refl refl)
              (subst (λ s. IsMode s (Struck (at + 1)) (slice_set core.callers at new)) (sym is) (mode_unwinds core.callers at mine new has refl least))
              core.journal.history core.journal.oplog room o.trailed.covers (o.trailed.plain ∙ sym (keys_more core.journal.trail (step.Unwound ticket) ∙ append-nil (logged_keys core.journal.trail)));
          flying = back.flying;
          answers = each_set (λ caller d. IsAnswered caller core.journal.history d) core.callers at mine new has (answers_same new refl refl) (λ caller d apart is_at. o.answers caller d is_at);
          unwound = back.unwound;
          copies = back.copies;
          undoable = back.undoable;
          pinned = back.pinned;
          floor = back.floor;
          fresh = back.fresh;
          incarnation = o.incarnation;
          marks = subst (λ s. HasMarks s (insiders (slice_set core.callers at new)) room) (sym is) (marks_unwind (insiders core.callers) (insiders (slice_set core.callers at new)) core.journal.room room (omega (arith, fewer, one)) left.trail (marks_at core o stage.Struck is));
          entries = (let fit = o.entries in let fits = left.history in let same = total_open new in omega (arith, fit, fits, same));
          stamps = o.stamps;
          logged = o.logged;
          sessions = o.sessions ∙ sym (length-set core.callers at new);
          saved = o.saved ∙ sym (length-set core.callers at new);
          dropped = o.dropped;
          within = o.within;
          bounds = o.bounds;
          changes = o.changes;
        }

    -- ---- a call that has its entry leaves

    pub orderly_leaves : core.stage ≡ stage.Running → flight.answered ≡ true → IsOrderly (roomy (leaving core at mine ticket pins) room)
    orderly_leaves is done =
        let new : CallerState = taken_back (record mine { flight = None; inside = false; answer = None }) in
        let back = gives_back (record mine { flight = None; inside = false; answer = None }) pins gives refl refl in
        let one : one_if mine.inside ≡ 1 = ap one_if inside in
        let fewer = fewer_in new refl in
        record {
          numbered = numbered_rest core.config core.journal (slice_set core.callers at new) core.stage _ core.journal.oplog core.journal.sealed_at room
              (numbered_keeps core.config core.journal core.callers core.stage o.numbered at mine has new refl (ends_flight mine new refl));
          trailed = trailed_moves core.journal core.callers core.stage core.stage o.trailed at mine has ticket whose (leaves ticket) (step.Left ticket) new Runs o.trailed.watch.since
              (ap (λ m. next_in o.trailed.watch m (step.Left ticket)) (mode_at core o stage.Running is) ∙ ap (λ m. at_place (record o.trailed.watch { mode = m }) ticket (leaves ticket)) (mode_at core o stage.Running is))
              (λ place seat. takes_leaves mine new flight ticket place seat flies held inside ordinal refl done refl)
              (subst (λ s. IsMode s Runs (slice_set core.callers at new)) (sym is) refl)
              core.journal.history core.journal.oplog room o.trailed.covers (o.trailed.plain ∙ sym (keys_more core.journal.trail (step.Left ticket) ∙ append-nil (logged_keys core.journal.trail)));
          flying = back.flying;
          answers = each_set (λ caller d. IsAnswered caller core.journal.history d) core.callers at mine new has (answers_gone new core.journal.history refl) (λ caller d apart is_at. o.answers caller d is_at);
          unwound = back.unwound;
          copies = back.copies;
          undoable = back.undoable;
          pinned = back.pinned;
          floor = back.floor;
          fresh = back.fresh;
          incarnation = o.incarnation;
          marks = subst (λ s. HasMarks s (insiders (slice_set core.callers at new)) room) (sym is) (marks_leave (insiders core.callers) (insiders (slice_set core.callers at new)) core.journal.room room (omega (arith, fewer, one)) left.trail left.records (marks_at core o stage.Running is));
          entries = (let fit = o.entries in let fits = left.history in let less = open_fewer new refl in omega (arith, fit, fits, less));
          stamps = o.stamps;
          logged = o.logged;
          sessions = o.sessions ∙ sym (length-set core.callers at new);
          saved = o.saved ∙ sym (length-set core.callers at new);
          dropped = o.dropped;
          within = o.within;
          bounds = o.bounds;
          changes = o.changes;
        }

  -- ---- a flight ends with no step: quit, and the answer of a call that was unwound

  pub orderly_ends : (pins : Stamps) → GivesBack core.cache.pins pins mine.undo → IsOrderly (ended core at mine pins)
  orderly_ends pins gives =
      let new : CallerState = taken_back (record mine { flight = None; inside = false; answer = None }) in
      let back = gives_back (record mine { flight = None; inside = false; answer = None }) pins gives refl refl in
      record {
        numbered = numbered_keeps core.config core.journal core.callers core.stage o.numbered at mine has new refl (ends_flight mine new refl);
        trailed = trailed_quiet core.journal core.callers core.stage o.trailed at mine new has (λ within. absurd (let wrong : false ≡ true = within in cc)) (λ place seat. record { begun = seat.begun; placed = tt }) core.journal.history core.journal.room refl;
        flying = back.flying;
        answers = each_set (λ caller d. IsAnswered caller core.journal.history d) core.callers at mine new has (answers_gone new core.journal.history refl) (λ caller d apart is_at. o.answers caller d is_at);
        unwound = back.unwound;
        copies = back.copies;
        undoable = back.undoable;
        pinned = back.pinned;
        floor = back.floor;
        fresh = back.fresh;
        incarnation = o.incarnation;
        marks = marks_fewer core.stage (insiders core.callers) (insiders (slice_set core.callers at new)) core.journal.room (let fewer = fewer_in new refl in omega (arith, fewer)) o.marks;
        entries = (let fit = o.entries in let less = open_fewer new refl in omega (arith, fit, less));
        stamps = o.stamps;
        logged = o.logged;
        sessions = o.sessions ∙ sym (length-set core.callers at new);
        saved = o.saved ∙ sym (length-set core.callers at new);
        dropped = o.dropped;
        within = o.within;
        bounds = o.bounds;
        changes = o.changes;
      }

  -- with an entry that is not the model's step

  pub orderly_answers : (flight : Flight) (answer : Reply) (pins : Stamps) (room : JournalRoom) → open_flight mine.flight ≡ Some flight → IsIdle answer → GivesBack core.cache.pins pins mine.undo → Leaves core.journal.room room 0 1
      → Says core.journal.records core.config.limit core.stage at flight.ordinal answer → IsOrderly (roomy (answered_by core at mine flight answer pins) room)
  orderly_answers flight answer pins room flies idle gives left said =
      let new : CallerState = taken_back (record mine { flight = None; inside = false; answer = None }) in
      let entry : Entry = entry_for at flight None answer in
      let back = gives_back (record mine { flight = None; inside = false; answer = None }) pins gives refl refl in
      let long : length (core.journal.history ++ entry ∷ []) ≡ length core.journal.history + 1 = length-append core.journal.history (entry ∷ []) in
      let open_one : one_if (is_open (open_flight mine.flight)) ≡ 1 = ap (λ f. one_if (is_open f)) flies in
      record {
        numbered = numbered_answers core.config core.journal core.callers core.stage o.numbered at mine has new refl flight flies refl entry refl refl refl refl said core.journal.oplog core.journal.trail room;
        trailed = trailed_quiet core.journal core.callers core.stage o.trailed at mine new has (λ within. absurd (let wrong : false ≡ true = within in cc)) (λ place seat. record { begun = seat.begun; placed = tt })
            (core.journal.history ++ entry ∷ []) room (plain_more core.journal.history entry ∙ ap (λ keys. plain_keys core.journal.history ++ keys) (idle_key at flight.ordinal answer idle) ∙ append-nil (plain_keys core.journal.history));
        flying = back.flying;
        answers = each_set (λ caller d. IsAnswered caller (core.journal.history ++ entry ∷ []) d) core.callers at mine new has (answers_gone new (core.journal.history ++ entry ∷ []) refl)
            (λ caller d apart is_at. answered_grows caller core.journal.history entry d (o.answers caller d is_at));
        unwound = back.unwound;
        copies = back.copies;
        undoable = back.undoable;
        pinned = back.pinned;
        floor = back.floor;
        fresh = back.fresh;
        incarnation = o.incarnation;
        marks = marks_room core.stage (insiders (slice_set core.callers at new)) core.journal.room room (let t = left.trail in omega (arith, t)) left.records
            (marks_fewer core.stage (insiders core.callers) (insiders (slice_set core.callers at new)) core.journal.room (let fewer = fewer_in new refl in omega (arith, fewer)) o.marks);
        entries = (let fit = o.entries in let fits = left.history in let both = total_open new in omega (arith, fit, fits, both, open_one));
        stamps = stamps_more (runs core.stage) (length core.journal.history) (length core.journal.records) (replayed core.stage) core.cache.stamps (length (core.journal.history ++ entry ∷ [])) (omega (arith, long)) o.stamps;
        logged = (let few = o.logged in omega (arith, few, long));
        sessions = o.sessions ∙ sym (length-set core.callers at new);
        saved = o.saved ∙ sym (length-set core.callers at new);
        dropped = o.dropped;
        within = o.within;
        bounds = o.bounds;
        changes = (let few = o.changes in omega (arith, few, long));
      }
    where
      idle_key : (caller ordinal : ℕ) (answer : Reply) → IsIdle answer → key_if_plain caller ordinal answer ≡ []
      idle_key caller ordinal (reply.Num number) idle = absurd idle
      idle_key caller ordinal (reply.Got bytes) idle = absurd idle
      idle_key caller ordinal (reply.Info stat) idle = absurd idle
      idle_key caller ordinal (reply.Refused e) idle = absurd idle
      idle_key caller ordinal (reply.Restart first second) idle = refl
      idle_key caller ordinal reply.Device idle = refl
      idle_key caller ordinal (reply.Failed faults) idle = refl

      stamps_more : (b : Bool) (entries faults again : ℕ) (stamps : Stamps) (more : ℕ) → entries ≤ more → StampsAreFew b entries faults again stamps → StampsAreFew b more faults again stamps
      stamps_more true entries faults again stamps more low few = λ block. (let one = few block in omega (arith, one, low))
      stamps_more false entries faults again stamps more low few = λ block. (let one = few block in omega (arith, one, low))
