-- A call that enters: the core is in order after it.
use Rattle.std.proofs.Common.{List, [], ◌∷◌, ◌++◌, ℕ, zero, suc, ◌+◌, ◌*◌, ◌<◌, ◌≤◌, ◌≡◌, ◌∙◌, inl, inr, true, false, cond, Option, Some, None, IsSome, count_by, length, slice_get, refl, ap, sym, subst, arith}
use Rattle.std.proofs.lemmas.List.Sums.{sum_by-append}
use Rattle.std.proofs.lemmas.Option.{same_Some}
use native.Mathlib.Numerals.{unary_clauses}
use Rattle.mb_kinds.specs.Image.{Image}
use Rattle.mb_kinds.specs.declared.calls.Call.{Call}
use Rattle.mb_kinds.specs.declared.entries.Entry.{Entry}
use Rattle.mb_kinds.specs.declared.entries.Flight.{Flight}
use Rattle.mb_kinds.specs.declared.faults.Ticket.{Ticket}
use Rattle.mb_kinds.specs.declared.replies.Reply.{Reply}
use Rattle.mb_kinds.specs.declared.replies.Reply.TheVariants as reply
use Rattle.mb_tree.specs.History.{IsFailed}
use Rattle.mb_tree.specs.SessionLaws.{IsCall}
use Rattle.mb_journal.specs.Room.{KeepsRoom}
use Rattle.mb_core_spec.specs.Callers.{EachCaller, begun, insiders, one_if}
use Rattle.mb_core_spec.specs.Events.{GivesBack, Leaves, answered_by, beginning, begins, ended, entering, entry_for, roomy, with_room}
use Rattle.mb_core_spec.specs.Faults.{FewDevices, MayNumber, Says, is_device}
use Rattle.mb_core_spec.specs.Flights.{IsFlying, runs}
use Rattle.mb_core_spec.specs.Numbers.{is_open, open_calls, open_flight}
use Rattle.mb_core_spec.specs.Owed.{IsIdle}
use Rattle.mb_core_spec.specs.Right.{Right}
use Rattle.mb_core_spec.specs.State.{CallerState, CoreState, JournalRoom}
use Rattle.mb_core_spec.specs.declared.stages.Stage.TheVariants as stage
use Rattle.mb_core_order.proofs.Beginning.{set_here}
use Rattle.mb_core_order.proofs.Enterings.{entering_begins}
use Rattle.mb_core_order.proofs.RightsOfCalls.{right_answers, right_ends, right_enters, right_waits}
use Rattle.mb_core_state.specs.Entering.{Enters, HasEnteredRoom, HasEntry, IsCause, LacksEntry, LacksTicket, MayComeIn, begun_if, flight_if, reserved_by, ticket_for, waiting, waiting_if}
use Rattle.mb_core_state.specs.declared.answers.Enter.{Enter}
use Rattle.mb_core_state.specs.declared.answers.Enter.TheVariants as enter
use Rattle.mb_core_events.specs.Callings.{MayCall}
use Rattle.mb_core_events.proofs.Kept.{carries, marks_stay, right_more, right_room}
use Rattle.mb_core_events.proofs.Knowing.{at_most_one, few_callers, most_begun, part_of_total}
use Rattle.mb_core_events.proofs.RightsOfRecovery.{flies_inside}

-- ---- sums over the callers, of which one began fewer than it may, and has no call in flight

begun_below : (callers : List CallerState) (most at : ℕ) (mine : CallerState) → EachCaller (λ caller d. d.begun ≤ most) callers → slice_get callers at ≡ Some mine → mine.begun < most → begun callers + 1 ≤ most * length callers
begun_below [] most at mine each has low = absurd (let wrong : None ≡ Some mine = has in cc)
begun_below (d ∷ callers) most zero mine each has low =
    let same : d.begun ≡ mine.begun = ap (λ (x : CallerState). x.begun) (same_Some d mine has) in
    let rest = most_begun callers most (λ caller other is. each (suc caller) other is) in
    let grows : most * suc (length callers) ≡ most * length callers + most = simp unary_clauses refl in
    omega (arith, same, rest, grows, low)
begun_below (d ∷ callers) most (suc at) mine each has low =
    let first : d.begun ≤ most = each 0 d refl in
    let rest = begun_below callers most at mine (λ caller other is. each (suc caller) other is) has low in
    let grows : most * suc (length callers) ≡ most * length callers + most = simp unary_clauses refl in
    omega (arith, first, rest, grows)

few_open : (callers : List CallerState) → open_calls callers ≤ length callers
few_open [] = omega arith
few_open (d ∷ callers) = let one = at_most_one (is_open (open_flight d.flight)) in let rest = few_open callers in omega (arith, one, rest)

fewer_open : (callers : List CallerState) (at : ℕ) (mine : CallerState) → slice_get callers at ≡ Some mine → mine.flight ≡ None → open_calls callers + 1 ≤ length callers
fewer_open [] at mine has free = absurd (let wrong : None ≡ Some mine = has in cc)
fewer_open (d ∷ callers) zero mine has free =
    let none : one_if (is_open (open_flight d.flight)) ≡ 0 = ap (λ (x : CallerState). one_if (is_open (open_flight x.flight))) (same_Some d mine has) ∙ ap (λ (o : Option Flight). one_if (is_open (open_flight o))) free in
    let rest = few_open callers in
    omega (arith, none, rest)
fewer_open (d ∷ callers) (suc at) mine has free = let one = at_most_one (is_open (open_flight d.flight)) in let rest = fewer_open callers at mine has free in omega (arith, one, rest)

-- ---- an entry that is neither the model's step nor the disk's

few_other : (before now : ℕ) (history : List Entry) (entry : Entry) → is_device entry.reply ≡ false → FewDevices before now history → FewDevices before now (history ++ entry ∷ [])
few_other before now history entry test so_far = λ below.
    (let counted = sum_by-append (λ (e : Entry). cond (is_device e.reply) 1 0) history (entry ∷ []) in
    let earlier = so_far below in
    let none : count_by (λ (e : Entry). is_device e.reply) (entry ∷ []) ≡ 0 = rw test refl in
    omega arith)

module _ {F D : Type 0} (told : D → Option Image) (faults : D → ℕ) (core : CoreState F D) (r : Right told faults core) (caller : ℕ) (mine : CallerState) (at : slice_get core.callers caller ≡ Some mine) where
  flying : IsFlying caller mine.inside (runs core.stage) core.incarnation mine.answer mine.flight
  flying = r.orderly.flying caller mine at

  -- ---- what the fields ask

  answers_if : (o : Option Flight) → mine.flight ≡ o → HasEntry o → IsSome mine.answer
  answers_if None is has = absurd has
  answers_if (Some flight) is has =
      let its : IsFlying caller mine.inside (runs core.stage) core.incarnation mine.answer (Some flight) = subst (IsFlying caller mine.inside (runs core.stage) core.incarnation mine.answer) is flying in
      its.logged has

  -- who has no ticket of the present incarnation is outside
  outside : core.stage ≡ stage.Running → LacksTicket core.incarnation mine.flight → mine.inside ≡ false
  outside running lacks = elim mine.inside as (λ b. mine.inside ≡ b → b ≡ false) [
    | true ↦ λ inside. (
        let flies = flies_inside told faults core r caller mine at inside in
        let here : LacksTicket core.incarnation (Some flies.flight) = subst (LacksTicket core.incarnation) flies.flies lacks in
        let other : LacksTicket core.incarnation (Some (record flies.flight { ticket = Some flies.ticket })) = subst (λ (t : Option Ticket). LacksTicket core.incarnation (Some (record flies.flight { ticket = t }))) flies.held here in
        absurd (other (flies.is.running_is refl (ap runs running))))
    | false ↦ λ no. refl
  ] refl

  module _ (given : Call) (good : IsCall given) (may : MayCall core caller given) where
    callers_long : core.config.most * length core.callers ≡ core.config.most * length core.config.callers
    callers_long = ap (λ n. core.config.most * n) r.orderly.numbered.callers_are

    few_begun : mine.flight ≡ None → core.config.start + begun core.callers < 4294967295
    few_begun free =
        let below = begun_below core.callers core.config.most caller mine r.orderly.numbered.begun at (may.few mine at free) in
        let bound = r.orderly.bounds.moments in
        let long = callers_long in
        omega (arith, below, bound, long)

    pub comes_in : MayComeIn core mine
    comes_in = record {
      few = λ free. (let part = part_of_total (λ (d : CallerState). d.begun) core.callers caller mine at in let all = few_begun free in omega (arith, part, all));
      moments = few_begun;
      answer = answers_if mine.flight refl;
      empty = λ running lacks. ((r.orderly.undoable caller mine at).outside (outside running lacks)).0;
    }

    -- ---- the call waits

    waits_if : (flying_now : Option Flight) → mine.flight ≡ flying_now → (room : JournalRoom) → KeepsRoom core.journal.room room → 8 ≤ room.history → Right told faults (roomy (waiting_if core caller mine given flying_now) room)
    waits_if None free room kept eight =
        let open_now = fewer_open core.callers caller mine at free in
        let few = few_callers told faults core r in
        right_waits told faults core r caller mine at given good free (may.few mine at free) room (record { trail = omega (arith, kept.trail); history = omega (arith, kept.history); records = kept.records }) (omega (arith, open_now, few, eight))
    waits_if (Some flight) flies room kept eight = right_room told faults core r room kept.history (marks_stay core.stage (insiders core.callers) core.journal.room room kept.trail kept.records r.orderly.marks)

    waits_right : (room : JournalRoom) → KeepsRoom core.journal.room room → 8 ≤ room.history → Right told faults (roomy (waiting core caller mine given) room)
    waits_right room kept eight = waits_if mine.flight refl room kept eight

    -- ---- the call is given up

    here_if : (flying_now : Option Flight) → slice_get (waiting_if core caller mine given flying_now).callers caller ≡ Some (begun_if core.config.start core.callers mine given flying_now)
    here_if None = set_here core.callers caller mine (begins core.config.start core.callers mine given) at
    here_if (Some flight) = at

    -- what the answer says of the records and of the volume
    caused : (ordinal : ℕ) (answer : Reply) → IsCause core caller ordinal answer
        → IsIdle answer × Says core.journal.records core.config.limit core.stage caller ordinal answer × (core.stage ≡ stage.Failed → IsFailed answer) × (is_device answer ≡ false)
    caused ordinal (reply.Failed count) cause =
        let number : length core.journal.records ≡ core.config.limit + 1 = subst (MayNumber (length core.journal.records) core.config.limit) cause.0 r.orderly.numbered.few in
        (tt, (cause.1 ∙ number, cause.0), (λ failed. tt), refl)
    caused ordinal (reply.Restart first second) cause = (
      tt,
      record { rising = cause.1.1.later; one = cause.1.0.names; other = cause.1.1.names },
      (λ failed. absurd (let wrong : stage.Running ≡ stage.Failed = sym cause.0 ∙ failed in cc)),
      refl,
    )
    caused ordinal (reply.Num number) cause = absurd cause
    caused ordinal (reply.Got bytes) cause = absurd cause
    caused ordinal (reply.Info stat) cause = absurd cause
    caused ordinal (reply.Refused e) cause = absurd cause
    caused ordinal reply.Device cause = absurd cause

    given_up_if : (flying_now : Option Flight) → mine.flight ≡ flying_now → LacksEntry flying_now → (new : CoreState F D) (answer : Reply) (waits : JournalRoom)
        → Right told faults (roomy (waiting_if core caller mine given flying_now) waits) → Leaves waits new.journal.room 0 1
        → new ≡ with_room (answered_by (waiting_if core caller mine given flying_now) caller (begun_if core.config.start core.callers mine given flying_now) (flight_if core.config.start core.callers mine given flying_now) answer new.cache.pins) new
        → GivesBack core.cache.pins new.cache.pins mine.undo → IsCause core caller (flight_if core.config.start core.callers mine given flying_now).ordinal answer → Right told faults new
    given_up_if None free lacks new answer waits right left event back cause =
        let state = begins core.config.start core.callers mine given in
        let flight : Flight = flight_if core.config.start core.callers mine given None in
        let why = caused flight.ordinal answer cause in
        carries told faults (answered_by (beginning core caller mine given) caller state flight answer new.cache.pins) new event
        (right_answers told faults (roomy (beginning core caller mine given) waits) right caller state (here_if None) flight answer new.cache.pins new.journal.room refl why.0 back left why.1 why.2
        (few_other (faults core.first) (faults core.cache.disk) core.journal.history (entry_for caller flight None answer) why.3 r.devices))
    given_up_if (Some flight) flies lacks new answer waits right left event back cause =
        let why = caused flight.ordinal answer cause in
        carries told faults (answered_by core caller mine flight answer new.cache.pins) new event
        (right_answers told faults (roomy core waits) right caller mine at flight answer new.cache.pins new.journal.room (rw flies (rw lacks refl)) why.0 back left why.1 why.2
        (few_other (faults core.first) (faults core.cache.disk) core.journal.history (entry_for caller flight None answer) why.3 r.devices))

    -- ---- the call goes inside

    inside_if : (flying_now : Option Flight) → mine.flight ≡ flying_now → LacksEntry flying_now → core.stage ≡ stage.Running → mine.inside ≡ false → (new : CoreState F D) (ticket : Ticket) (reserved : Option ℕ)
        → ticket ≡ ticket_for core caller (flight_if core.config.start core.callers mine given flying_now)
        → new ≡ with_room (entering core caller (begun_if core.config.start core.callers mine given flying_now) (flight_if core.config.start core.callers mine given flying_now) ticket reserved) new
        → HasEnteredRoom core.journal.room new.journal.room → Right told faults new
    inside_if None free lacks running out new ticket reserved is event left =
        let state = begins core.config.start core.callers mine given in
        let flight : Flight = flight_if core.config.start core.callers mine given None in
        let room : JournalRoom = record core.journal.room { history = new.journal.room.history } in
        let entries = left.entries in
        let eight = left.history in
        let open_now = fewer_open core.callers caller mine at free in
        let few = few_callers told faults core r in
        let waits = right_waits told faults core r caller mine at given good free (may.few mine at free) room (record { trail = omega arith; history = omega (arith, entries); records = omega arith }) (omega (arith, open_now, few, eight)) in
        carries told faults (entering core caller state flight ticket reserved) new event
        (subst (λ (c : CoreState F D). Right told faults (roomy c new.journal.room)) (entering_begins core caller mine given flight ticket reserved)
        (right_enters told faults (roomy (beginning core caller mine given) room) waits caller state (here_if None) flight refl refl out running ticket (ap (λ (t : Ticket). t.caller) is) (ap (λ (t : Ticket). t.ordinal) is)
        (ap (λ (t : Ticket). t.moment) is) (ap (λ (t : Ticket). t.incarnation) is) reserved new.journal.room left.trail left.records (omega arith)))
    inside_if (Some flight) flies lacks running out new ticket reserved is event left =
        carries told faults (entering core caller mine flight ticket reserved) new event
        (right_enters told faults core r caller mine at flight flies lacks out running ticket (ap (λ (t : Ticket). t.caller) is) (ap (λ (t : Ticket). t.ordinal) is)
        (ap (λ (t : Ticket). t.moment) is) (ap (λ (t : Ticket). t.incarnation) is) reserved new.journal.room left.trail left.records left.entries)

    -- ---- by the answer

    pub entered_right : (new : CoreState F D) (answer : Enter) → Enters core new caller mine given answer → Right told faults new
    entered_right new (enter.Done answer) by = elim by [
      | inl out ↦ carries told faults (ended core caller mine new.cache.pins) new out.event
          (subst (λ (room : JournalRoom). Right told faults (roomy (ended core caller mine new.cache.pins) room)) (sym out.room) (right_ends told faults core r caller mine at new.cache.pins out.back))
      | inr up ↦ (let its = up.2 in given_up_if mine.flight refl up.0 new answer its.waits (waits_right its.waits its.space.kept its.space.history) its.left its.event its.back up.1)
    ]
    entered_right new enter.Shut by = carries told faults (waiting core caller mine given) new by.2 (waits_right new.journal.room by.3.kept by.3.history)
    entered_right new (enter.Inside ticket) by = elim by.3 [
      | inl again ↦ subst (Right told faults) (sym again.1) r
      | inr anew ↦ inside_if mine.flight refl by.0 by.1 (outside by.1 anew.0) new ticket (reserved_by core.tables.sessions caller given) anew.1.inside.ticket_is anew.1.inside.event anew.1.room
    ]
    entered_right new enter.NoMemory by = right_more told faults core r new by.1 by.2
