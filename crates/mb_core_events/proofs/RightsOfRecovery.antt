-- A checkpoint, a page written back, and each step of a recovery: the core is in order after it.
use Rattle.std.proofs.Common.{List, ℕ, ◌<◌, ◌≤◌, ◌≡◌, ◌∙◌, inl, inr, Bool, true, Option, Some, None, Result, Ok, Err, OnOk, OnErr, length, option_map, slice_get, refl, ap, sym, subst, arith}
use Rattle.std.specs.Prelude.{nat_lt}
use Rattle.std.proofs.lemmas.Bool.Decides.{nat_tests}
use Rattle.std.proofs.lemmas.Option.{same_Some}
use Rattle.mb_kinds.specs.Image.{Image}
use Rattle.mb_kinds.specs.declared.faults.Kind.{Kind}
use Rattle.mb_kinds.specs.declared.faults.Ticket.{Ticket}
use Rattle.mb_edge.specs.declared.strokes.Stroke.{Stroke}
use Rattle.mb_tree.specs.Sessions.{counts}
use Rattle.mb_cache.specs.Pages.{PageList, under}
use Rattle.mb_cache.specs.State.{Flushes, ReadsAlike}
use Rattle.mb_cache.specs.declared.answers.Flushed.{Flushed}
use Rattle.mb_cache.specs.declared.answers.Flushed.TheVariants as flushed
use Rattle.mb_session.specs.OpenFiles.{TellsCounts}
use Rattle.mb_journal.specs.Room.{KeepsRoom, LeavesFault}
use Rattle.mb_core_spec.specs.Bounds.{HasMarks, replayed}
use Rattle.mb_core_spec.specs.Callers.{EachCaller, insiders}
use Rattle.mb_core_spec.specs.Conditions.{AreUnwound}
use Rattle.mb_core_spec.specs.Events.{GivesBack, Leaves, roomy, with_room}
use Rattle.mb_core_spec.specs.Flights.{IsFlying, runs}
use Rattle.mb_core_spec.specs.Recovery.{dropping, failing, flushing, reopening, resuming, sealing, striking_again, unwinding}
use Rattle.mb_core_spec.specs.Right.{Right}
use Rattle.mb_core_spec.specs.State.{CallerState, CoreState}
use Rattle.mb_core_spec.specs.declared.stages.Stage.{Stage}
use Rattle.mb_core_spec.specs.declared.stages.Stage.TheVariants as stage
use Rattle.mb_core_order.proofs.Conditions.{still_tells, was_told}
use Rattle.mb_core_order.proofs.Rights.{right_flushes, right_resumes, right_seals}
use Rattle.mb_core_order.proofs.RightsOfCalls.{right_drops_both, right_fails, right_reopens, right_strikes_again, right_unwinds}
use Rattle.mb_core_order.specs.Readings.{FliesInside}
use Rattle.mb_core_order.proofs.Readings.{flying_inside}
use Rattle.mb_core_state.specs.Finishing.{HasTicketOf}
use Rattle.mb_core_state.specs.declared.answers.Phase.TheVariants as phase
use Rattle.mb_core_events.specs.Callings.{MayMeetFault, Unwinds, phase_now}
use Rattle.mb_core_events.proofs.Kept.{carries, right_more, right_room}
use Rattle.mb_core_events.proofs.Knowing.{few_insiders, marks_at, ticket_is, ticket_of_is}
use Rattle.mb_core_events.proofs.Phases.{drops_at, meets_at, nobody_inside, reopens_at, resumes_at, unwinds_at}

same_reads : (now : Option Image) (pages : PageList) → ReadsAlike now pages now pages
same_reads None pages = tt
same_reads (Some image) pages = refl

inside_at : (o : Option CallerState) → option_map (λ (mine : CallerState). mine.inside) o ≡ Some true → (mine : CallerState) × (o ≡ Some mine) × (mine.inside ≡ true)
inside_at None is = cc
inside_at (Some mine) is = (mine, refl, same_Some mine.inside true is)

module _ {F D : Type 0} (told : D → Option Image) (faults : D → ℕ) (core : CoreState F D) (r : Right told faults core) where
  abbrev here : Bool
  here = nat_lt 0 (insiders core.callers)

  abbrev log : ℕ
  log = length core.journal.oplog

  -- ---- a checkpoint, and a page written back

  pub sealed_right : (new : CoreState F D) {E : Type 0} (result : Result (Unit {0}) E) → core.stage ≡ stage.Running
      → OnOk result ((new ≡ with_room (sealing core new.cache.sealed) new) × ((image : Image) → under image new.cache.sealed ≡ under (under image core.cache.sealed) core.cache.current))
      → OnErr result (new ≡ with_room core new) → OnOk result ((10 ≤ new.journal.room.trail) × (core.journal.room.records ≤ new.journal.room.records)) → OnErr result (KeepsRoom core.journal.room new.journal.room)
      → core.journal.room.history ≤ new.journal.room.history → Right told faults new
  sealed_right new (Ok done) running ok err marks kept history =
      let few = few_insiders told faults core r in
      let trail = marks.0 in
      let records = marks.1 in
      carries told faults (sealing core new.cache.sealed) new ok.0
      (right_seals told faults core r new.cache.sealed new.journal.room history running
      (λ some. (let had = (marks_at told faults core r stage.Running running some).1 in (omega (arith, few, trail), omega (arith, had, records)))) ok.1)
  sealed_right new (Err error) running ok err marks kept history = right_more told faults core r new err kept

  alike_after : (new : CoreState F D) (result : Flushed) → Flushes told faults core.cache new.cache result → ReadsAlike (told core.cache.disk) core.cache.sealed (told new.cache.disk) new.cache.sealed × (faults core.cache.disk ≤ faults new.cache.disk)
  alike_after new flushed.Clean by = subst (λ cache. ReadsAlike (told core.cache.disk) core.cache.sealed (told cache.disk) cache.sealed × (faults core.cache.disk ≤ faults cache.disk)) (sym by.1)
      (same_reads (told core.cache.disk) core.cache.sealed, omega arith)
  alike_after new flushed.One by = (by.0.alike, by.0.cause.later)
  alike_after new flushed.Device by = (by.0.alike, by.0.cause.later)

  pub flushed_right : (new : CoreState F D) (result : Flushed) → Flushes told faults core.cache new.cache result → new ≡ with_room (flushing core new.cache.disk new.cache.sealed) new → new.journal.room ≡ core.journal.room → Right told faults new
  flushed_right new result by is same =
      let after = alike_after new result by in
      carries told faults (flushing core new.cache.disk new.cache.sealed) new is
      (subst (λ room. Right told faults (roomy (flushing core new.cache.disk new.cache.sealed) room)) (sym same)
      (right_flushes told faults core r new.cache.disk new.cache.sealed
      (λ first image began now. was_told (told core.cache.disk) (told new.cache.disk) core.cache.sealed new.cache.sealed image (r.tells first began) now after.0)
      (λ tells. still_tells (told core.cache.disk) (told new.cache.disk) core.cache.sealed new.cache.sealed tells after.0) after.1))

  -- ---- a call is unwound

  pub struck_now : phase_now core ≡ phase.Unwind → core.stage ≡ stage.Struck
  struck_now is = (unwinds_at core.stage here log is).0

  pub some_now : phase_now core ≡ phase.Unwind → 1 ≤ insiders core.callers
  some_now is = let test = (unwinds_at core.stage here log is).1 in grind (arith, nat_tests, test)

  pub flies_inside : (caller : ℕ) (mine : CallerState) → slice_get core.callers caller ≡ Some mine → mine.inside ≡ true → FliesInside caller (runs core.stage) core.incarnation mine.flight
  flies_inside caller mine is inside = flying_inside caller (runs core.stage) core.incarnation mine.answer mine.flight
      (subst (λ (b : Bool). IsFlying caller b (runs core.stage) core.incarnation mine.answer mine.flight) inside (r.orderly.flying caller mine is))

  -- a caller inside has a ticket
  pub has_ticket : (caller : ℕ) → option_map (λ (mine : CallerState). mine.inside) (slice_get core.callers caller) ≡ Some true → (ticket : Ticket) × HasTicketOf core.callers caller ticket
  has_ticket caller is =
      let of = inside_at (slice_get core.callers caller) is in
      let flies = flies_inside caller of.0 of.1 of.2 in
      (flies.ticket, record { mine = of.0; here = of.1; flight = flies.flight; flies = flies.flies; held = flies.held })

  pub ticket_caller : (caller : ℕ) (ticket : Ticket) → HasTicketOf core.callers caller ticket → ticket.caller ≡ caller
  ticket_caller caller ticket of = (ticket_of_is told faults core r caller ticket of).caller_is

  pub unwinds_by : (new : CoreState F D) (caller : ℕ) (ticket : Ticket) → option_map (λ (mine : CallerState). mine.inside) (slice_get core.callers caller) ≡ Some true
      → EachCaller (λ other one. one.inside ≡ true → caller ≤ other) core.callers → HasTicketOf core.callers caller ticket
      → ((mine : CallerState) → slice_get core.callers ticket.caller ≡ Some mine → (new ≡ with_room (unwinding core ticket.caller mine ticket new.cache.pins) new) × GivesBack core.cache.pins new.cache.pins mine.undo)
      → Unwinds core new ticket
  unwinds_by new caller ticket is least of by =
      let whose = ticket_caller caller ticket of in
      let inner = inside_at (slice_get core.callers caller) is in
      let at : slice_get core.callers ticket.caller ≡ Some of.mine = ap (slice_get core.callers) whose ∙ of.here in
      let its = by of.mine at in
      record {
        mine = of.mine;
        flight = of.flight;
        within = record { here = at; flies = of.flies; held = of.held; inside = ap (λ (mine : CallerState). mine.inside) (same_Some of.mine inner.0 (sym of.here ∙ inner.1)) ∙ inner.2 };
        least = λ other one there inside. (let low = least other one there inside in omega (arith, low, whose));
        event = its.0;
        back = its.1;
      }

  pub unwound_right : (new : CoreState F D) (ticket : Ticket) → phase_now core ≡ phase.Unwind → Unwinds core new ticket → Leaves core.journal.room new.journal.room 1 0 → Right told faults new
  unwound_right new ticket is by room =
      let w = by.within in
      let t = ticket_is told faults core r ticket (record { mine = by.mine; here = w.here; flight = by.flight; flies = w.flies; held = w.held }) in
      carries told faults (unwinding core ticket.caller by.mine ticket new.cache.pins) new by.event
      (right_unwinds told faults core r ticket.caller by.mine w.here by.flight w.flies ticket w.held w.inside t.ordinal t.caller_is new.cache.pins by.back new.journal.room room (struck_now is) by.least)

  -- ---- the pages are dropped, or the volume is given up

  drops_now : phase_now core ≡ phase.Drop → AreUnwound core
  drops_now is = elim (drops_at core.stage here log is) [
    | inl struck ↦ (let test = struck.1 in inl (struck.0, nobody_inside core.callers (grind (arith, nat_tests, test))))
    | inr again ↦ inr again
  ]

  pub drop_room : phase_now core ≡ phase.Drop → 0 < core.journal.room.trail
  drop_room is = elim (drops_at core.stage here log is) [
    | inl struck ↦ (let marks = marks_at told faults core r stage.Struck struck.0 in omega (arith, marks))
    | inr again ↦ (let marks = marks_at told faults core r stage.Again again in omega (arith, marks))
  ]

  pub dropped_right : (new : CoreState F D) → phase_now core ≡ phase.Drop → length core.journal.records ≤ core.config.limit → new ≡ with_room (dropping core) new → Leaves core.journal.room new.journal.room 1 0 → Right told faults new
  dropped_right new is few event room = carries told faults (dropping core) new event
      (right_drops_both told faults core r new.journal.room (record { unwound = drops_now is; few = few; entries = (let h = room.history in omega (arith, h)) }))

  pub failed_right : (new : CoreState F D) → phase_now core ≡ phase.Drop → core.config.limit < length core.journal.records → new ≡ with_room (failing core) new → Leaves core.journal.room new.journal.room 1 0 → Right told faults new
  failed_right new is many event room = carries told faults (failing core) new event
      (right_fails told faults core r new.journal.room (let h = room.history in omega (arith, h)) (drops_now is) many)

  -- ---- the open files are restored, and the volume runs again

  -- nothing happened, in a stage that asks for no marks
  more_room : (new : CoreState F D) → new ≡ with_room core new → core.journal.room.history ≤ new.journal.room.history → HasMarks core.stage (insiders core.callers) new.journal.room → Right told faults new
  more_room new event history marks = carries told faults core new event (right_room told faults core r new.journal.room history marks)

  pub reopened_right : (new : CoreState F D) {E : Type 0} (result : Result (Unit {0}) E) → phase_now core ≡ phase.Reopen
      → OnOk result ((new ≡ with_room (reopening core new.tables.opens) new) × TellsCounts new.tables.opens (counts core.tables.saved)) → OnErr result (new ≡ with_room core new)
      → core.journal.room.history ≤ new.journal.room.history → Right told faults new
  reopened_right new (Ok done) is ok err history = carries told faults (reopening core new.tables.opens) new ok.0
      (right_reopens told faults core r new.tables.opens new.journal.room history (reopens_at core.stage here log is) ok.1)
  reopened_right new (Err error) is ok err history = more_room new err history (subst (λ (s : Stage). HasMarks s (insiders core.callers) new.journal.room) (sym (reopens_at core.stage here log is)) tt)

  resumes_now : phase_now core ≡ phase.Resume → core.stage ≡ stage.Restored (length core.journal.oplog)
  resumes_now is =
      let at = resumes_at core.stage here log is in
      let within : replayed core.stage ≤ length core.journal.oplog = r.orderly.within in
      let done : replayed core.stage ≡ at.0 = ap replayed at.1 in
      let low = at.2 in
      let all : at.0 ≡ length core.journal.oplog = omega (arith, within, done, low) in
      at.1 ∙ ap (λ (n : ℕ). stage.Restored n) all

  pub resumed_right : (new : CoreState F D) {E : Type 0} (result : Result (Unit {0}) E) → phase_now core ≡ phase.Resume → OnOk result (new ≡ with_room (resuming core) new) → OnErr result (new ≡ with_room core new)
      → core.journal.room.history ≤ new.journal.room.history → Right told faults new
  resumed_right new (Ok done) is ok err history = carries told faults (resuming core) new ok (right_resumes told faults core r new.journal.room history (resumes_now is))
  resumed_right new (Err error) is ok err history = more_room new err history (subst (λ (s : Stage). HasMarks s (insiders core.callers) new.journal.room) (sym (resumes_now is)) tt)

  -- ---- a fault strikes the recovery

  pub met_right : (mid new : CoreState F D) (caller ordinal : ℕ) (kind : Kind) (nth : ℕ) (strokes : List Stroke) → MayMeetFault (phase_now core) → caller < length core.config.callers
      → KeepsRoom core.journal.room mid.journal.room → 2 ≤ mid.journal.room.trail → new ≡ with_room (striking_again core caller ordinal kind nth strokes) new → LeavesFault mid.journal.room new.journal.room → Right told faults new
  met_right mid new caller ordinal kind nth strokes may declared kept trail event left =
      let k = kept.history in
      let l = left.history in
      let t = left.trail in
      carries told faults (striking_again core caller ordinal kind nth strokes) new event
      (right_strikes_again told faults core r caller ordinal kind nth strokes new.journal.room
      (record { declared = declared; recovers = meets_at core.stage here log may; marks = omega (arith, trail, t); entries = omega (arith, k, l) }))

  pub unmet_right : (mid : CoreState F D) → mid ≡ with_room core mid → KeepsRoom core.journal.room mid.journal.room → Right told faults mid
  unmet_right mid event kept = right_more told faults core r mid event kept

-- room that was taken before does not show
pub struck_roomy : {F D : Type 0} (core mid new : CoreState F D) (caller ordinal : ℕ) (kind : Kind) (nth : ℕ) (strokes : List Stroke) → mid ≡ with_room core mid
    → new ≡ with_room (striking_again mid caller ordinal kind nth strokes) new → new ≡ with_room (striking_again core caller ordinal kind nth strokes) new
struck_roomy {F} {D} core mid new caller ordinal kind nth strokes same event = event ∙ ap (λ (c : CoreState F D). with_room (striking_again c caller ordinal kind nth strokes) new) same
