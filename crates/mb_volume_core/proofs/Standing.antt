-- No event but a step of a recovery takes one of its steps back.
use Rattle.std.proofs.Common.{◌≡◌, ◌∙◌, ◌≤◌, ◌+◌, inl, inr, ℕ, true, false, Option, None, Some, length, slice_get, slice_set, ap, sym, arith}
use Rattle.mb_kinds.specs.Image.{Image}
use Rattle.mb_kinds.specs.declared.calls.Call.{Call}
use Rattle.mb_kinds.specs.declared.entries.Flight.{Flight}
use Rattle.mb_kinds.specs.declared.faults.Kind.{Kind}
use Rattle.mb_kinds.specs.declared.faults.Ticket.{Ticket}
use Rattle.mb_kinds.specs.declared.replies.Reply.{Reply}
use Rattle.mb_iface.specs.declared.replies.Need.{Need}
use Rattle.mb_core_spec.specs.Callers.{insiders, one_if}
use Rattle.mb_core_spec.specs.Copies.{PagesState}
use Rattle.mb_core_spec.specs.Events.{answered_by, ended, with_room}
use Rattle.mb_core_spec.specs.Recovery.{flushing}
use Rattle.mb_core_spec.specs.State.{CallerState, CoreState}
use Rattle.mb_core_spec.specs.declared.stages.Stage.{Stage}
use Rattle.mb_core_spec.specs.declared.stages.Stage.TheVariants as stage
use Rattle.mb_core_order.proofs.Keepings.{insiders_set}
use Rattle.mb_core_state.specs.Answers.{Gathering, Leaving}
use Rattle.mb_core_state.specs.Entering.{Enters as CoreEnters, begun_if, flight_if, waiting_if}
use Rattle.mb_core_state.specs.declared.answers.Enter.{Enter as Entered}
use Rattle.mb_core_state.specs.declared.answers.Enter.TheVariants as entered
use Rattle.mb_core_state.specs.declared.answers.Fault.{Fault}
use Rattle.mb_core_state.specs.declared.answers.Fault.TheVariants as fault
use Rattle.mb_core_state.specs.declared.answers.Finished.{Finished}
use Rattle.mb_core_state.specs.declared.answers.Finished.TheVariants as finished
use Rattle.mb_core_state.specs.declared.answers.Gathered.{Gathered}
use Rattle.mb_core_state.specs.declared.answers.Gathered.TheVariants as gathered
use Rattle.mb_core_state.specs.declared.answers.Left.{Left}
use Rattle.mb_core_state.specs.declared.answers.Left.TheVariants as left
use Rattle.mb_run.specs.CoreSight.{sight_of}
use Rattle.mb_run.specs.Events.{FaultsWith, FinishesInSight}
use Rattle.mb_run.specs.Lengths.{ComesNoFurther}
use Rattle.mb_run.specs.Sights.{Sight, recovers, steps_left}
use Rattle.mb_run.proofs.Lengthening.{stands_on, stands_still}
use Rattle.mb_volume_core.specs.Flushes.{FlushesAfter}
use Rattle.mb_volume_core.proofs.Leaving.{gone}
use Rattle.mb_volume_core.proofs.Staying.{set_twice}

fewer_inside : (few many ops : ℕ) (now : Stage) → few ≤ many → steps_left few ops now ≤ steps_left many ops now
fewer_inside few many ops stage.Struck low = omega (arith, low)
fewer_inside few many ops stage.Running low = omega arith
fewer_inside few many ops stage.Again low = omega arith
fewer_inside few many ops stage.Dropped low = omega arith
fewer_inside few many ops stage.Remounted low = omega arith
fewer_inside few many ops (stage.Restored done) low = omega arith
fewer_inside few many ops stage.Failed low = omega arith

module _ {F D : Type 0} (core new : CoreState F D) (oplog : new.journal.oplog ≡ core.journal.oplog) (on : new.stage ≡ core.stage) where
  ops : length new.journal.oplog ≡ length core.journal.oplog
  ops = ap length oplog

  -- the volume is where it was, the log is what it was, and no more calls are inside
  pub stands_with : insiders new.callers ≤ insiders core.callers → ComesNoFurther (sight_of core) (sight_of new)
  stands_with fewer =
      let inside : ℕ = insiders new.callers in
      let same : steps_left inside (length new.journal.oplog) new.stage ≡ steps_left inside (length core.journal.oplog) core.stage =
      ap (λ n. steps_left inside n new.stage) ops ∙ ap (steps_left inside (length core.journal.oplog)) on in
      let low = fewer_inside inside (insiders core.callers) (length core.journal.oplog) core.stage fewer in
      record { nearer = omega (arith, same, low, ops) }

  -- one caller's state changes, which is not inside where it was not
  pub stands_by : (caller : ℕ) (mine now : CallerState) → slice_get core.callers caller ≡ Some mine → new.callers ≡ slice_set core.callers caller now → one_if now.inside ≤ one_if mine.inside → ComesNoFurther (sight_of core) (sight_of new)
  stands_by caller mine now here stored fewer =
      let total : insiders (slice_set core.callers caller now) + one_if mine.inside ≡ insiders core.callers + one_if now.inside = insiders_set core.callers caller mine now here in
      let all : insiders new.callers ≡ insiders (slice_set core.callers caller now) = ap insiders stored in
      stands_with (omega (arith, total, all, fewer))

  -- the volume runs
  pub stands_running : core.stage ≡ stage.Running → ComesNoFurther (sight_of core) (sight_of new)
  stands_running runs =
      let none : steps_left (insiders new.callers) (length new.journal.oplog) new.stage ≡ 0 = ap (steps_left (insiders new.callers) (length new.journal.oplog)) (on ∙ runs) in
      record { nearer = omega (arith, none, ops) }

-- ---- a call enters

module _ {F D : Type 0} (core : CoreState F D) (caller : ℕ) (mine : CallerState) (here : slice_get core.callers caller ≡ Some mine) where
  -- it ends, with its entry or without one
  pub ended_stands : (new : CoreState F D) → new.journal.oplog ≡ core.journal.oplog → new.stage ≡ core.stage → new.callers ≡ slice_set core.callers caller (gone mine) → ComesNoFurther (sight_of core) (sight_of new)
  ended_stands new oplog on stored = stands_by core new oplog on caller mine (gone mine) here stored (omega arith)

  module _ (given : Call) where
    abbrev state : Option Flight → CallerState
    state o = begun_if core.config.start core.callers mine given o

    abbrev the_flight : Option Flight → Flight
    the_flight o = flight_if core.config.start core.callers mine given o

    given_up_stands : (new : CoreState F D) (answer : Reply) (o : Option Flight) → new ≡ with_room (answered_by (waiting_if core caller mine given o) caller (state o) (the_flight o) answer new.cache.pins) new → ComesNoFurther (sight_of core) (sight_of new)
    given_up_stands new answer None event =
        stands_by core new (ap (λ (c : CoreState F D). c.journal.oplog) event) (ap (λ (c : CoreState F D). c.stage) event) caller mine (gone (state None)) here
        (ap (λ (c : CoreState F D). c.callers) event ∙ set_twice core.callers caller (state None) (gone (state None))) (omega arith)
    given_up_stands new answer (Some flight) event =
        ended_stands new (ap (λ (c : CoreState F D). c.journal.oplog) event) (ap (λ (c : CoreState F D). c.stage) event) (ap (λ (c : CoreState F D). c.callers) event)

    shut_stands : (new : CoreState F D) (o : Option Flight) → new ≡ with_room (waiting_if core caller mine given o) new → ComesNoFurther (sight_of core) (sight_of new)
    shut_stands new None event =
        stands_by core new (ap (λ (c : CoreState F D). c.journal.oplog) event) (ap (λ (c : CoreState F D). c.stage) event) caller mine (state None) here (ap (λ (c : CoreState F D). c.callers) event) (omega arith)
    shut_stands new (Some flight) event = stands_still (sight_of core) (sight_of new) (ap (λ (c : CoreState F D). sight_of c) event)

    pub enter_stands : (new : CoreState F D) (answer : Entered) → CoreEnters core new caller mine given answer → ComesNoFurther (sight_of core) (sight_of new)
    enter_stands new (entered.Done answer) by = elim by [
      | inl out ↦ ended_stands new (ap (λ (c : CoreState F D). c.journal.oplog) out.event) (ap (λ (c : CoreState F D). c.stage) out.event) (ap (λ (c : CoreState F D). c.callers) out.event)
      | inr up ↦ given_up_stands new answer mine.flight up.2.event
    ]
    enter_stands new entered.Shut by = shut_stands new mine.flight by.2
    enter_stands new (entered.Inside ticket) by = elim by.3 [
      | inl again ↦ stands_still (sight_of core) (sight_of new) (ap (λ (c : CoreState F D). sight_of c) again.1)
      | inr anew ↦ stands_running core new (ap (λ (c : CoreState F D). c.journal.oplog) anew.1.inside.event) (ap (λ (c : CoreState F D). c.stage) anew.1.inside.event) by.1
    ]
    enter_stands new entered.NoMemory by = stands_still (sight_of core) (sight_of new) (ap (λ (c : CoreState F D). sight_of c) by.1)

-- ---- it is given up, or leaves, and a page is written back

module _ {F D : Type 0} (core new : CoreState F D) where
  pub quit_stands : (caller : ℕ) (mine : CallerState) → slice_get core.callers caller ≡ Some mine → new ≡ with_room (ended core caller mine new.cache.pins) new → ComesNoFurther (sight_of core) (sight_of new)
  quit_stands caller mine here event =
      ended_stands core caller mine here new (ap (λ (c : CoreState F D). c.journal.oplog) event) (ap (λ (c : CoreState F D). c.stage) event) (ap (λ (c : CoreState F D). c.callers) event)

  pub flush_stands : new ≡ with_room (flushing core new.cache.disk new.cache.sealed) new → ComesNoFurther (sight_of core) (sight_of new)
  flush_stands event =
      let same : insiders new.callers ≡ insiders core.callers = ap (λ (c : CoreState F D). insiders c.callers) event in
      stands_with core new (ap (λ (c : CoreState F D). c.journal.oplog) event) (ap (λ (c : CoreState F D). c.stage) event) (omega (arith, same))

  left_stands : (ticket : Ticket) (mine : CallerState) → slice_get core.callers ticket.caller ≡ Some mine → (answer : Left) → Leaving core new ticket mine answer → ComesNoFurther (sight_of core) (sight_of new)
  left_stands ticket mine here (left.Skip was now) by = stands_still (sight_of core) (sight_of new) (ap (λ (c : CoreState F D). sight_of c) by.same)
  left_stands ticket mine here (left.Left answer) by =
      ended_stands core ticket.caller mine here new (ap (λ (c : CoreState F D). c.journal.oplog) by.2) (ap (λ (c : CoreState F D). c.stage) by.2) (ap (λ (c : CoreState F D). c.callers) by.2)

  pub gather_stands : (told : D → Option Image) (faults : D → ℕ) (ticket : Ticket) (need : Need) (mine : CallerState) (flight : Flight) → slice_get core.callers ticket.caller ≡ Some mine → (before now : PagesState) (answer : Gathered)
      → Gathering told faults core new ticket need mine flight before now answer → ComesNoFurther (sight_of core) (sight_of new)
  gather_stands told faults ticket need mine flight here before now (gathered.Skip was present) by = stands_still (sight_of core) (sight_of new) (ap (λ (c : CoreState F D). sight_of c) by.0.same)
  gather_stands told faults ticket need mine flight here before now gathered.Device by =
      ended_stands core ticket.caller mine here new (ap (λ (c : CoreState F D). c.journal.oplog) by.2) (ap (λ (c : CoreState F D). c.stage) by.2) (ap (λ (c : CoreState F D). c.callers) by.2)
  gather_stands told faults ticket need mine flight here before now gathered.NoMemory by = stands_still (sight_of core) (sight_of new) (ap (λ (c : CoreState F D). sight_of c) by.1)
  gather_stands told faults ticket need mine flight here before now gathered.Done by =
      let grown : CallerState = record mine { pages = by.1.kept.pages; undo = by.1.kept.undo } in
      stands_by core new (ap (λ (c : CoreState F D). c.journal.oplog) by.2) (ap (λ (c : CoreState F D). c.stage) by.2) ticket.caller mine grown here (ap (λ (c : CoreState F D). c.callers) by.2) (omega arith)

after_stands : {F D : Type 0} (told : D → Option Image) (faults : D → ℕ) (mid new : CoreState F D) (answer : Left) → FlushesAfter told faults answer mid new → ComesNoFurther (sight_of mid) (sight_of new)
after_stands told faults mid new (left.Skip was now) same = stands_still (sight_of mid) (sight_of new) (ap sight_of same)
after_stands told faults mid new (left.Left answer) made = flush_stands mid new made.2

pub leave_stands : {F D : Type 0} (told : D → Option Image) (faults : D → ℕ) (core mid new : CoreState F D) (ticket : Ticket) (mine : CallerState) → slice_get core.callers ticket.caller ≡ Some mine → (answer : Left) → Leaving core mid ticket mine answer
    → FlushesAfter told faults answer mid new → ComesNoFurther (sight_of core) (sight_of new)
leave_stands told faults core mid new ticket mine here answer by made =
    stands_on (sight_of core) (sight_of mid) (sight_of new) (left_stands core mid ticket mine here answer by) (after_stands told faults mid new answer made)

-- ---- in a recovery a call's ticket is of an earlier incarnation: the call neither finishes nor is struck

not_both : (now : Stage) → now ≡ stage.Running → recovers now ≡ true → ⊥
not_both now runs recovered = let wrong : false ≡ true = sym (ap recovers runs) ∙ recovered in cc

module _ (old new : Sight) (ticket : Ticket) (runs : ticket.incarnation ≡ old.incarnation → old.stage ≡ stage.Running) (recovered : recovers old.stage ≡ true) where
  never : ticket.incarnation ≡ old.incarnation → ComesNoFurther old new
  never present = absurd (not_both old.stage (runs present) recovered)

  pub finish_stands : (pages : PagesState) (made : Call) (answer : Finished) → FinishesInSight old new ticket pages made answer → ComesNoFurther old new
  finish_stands pages made (finished.Skip was now) by = stands_still old new by.1
  finish_stands pages made (finished.Busy holder) by = stands_still old new by.3
  finish_stands pages made (finished.Stale block) by = never by.0
  finish_stands pages made finished.NoMemory by = stands_still old new by.1
  finish_stands pages made finished.Logged by = never by.0

  pub fault_stands : (kind : Kind) (nth : ℕ) (answer : Fault) → FaultsWith old new ticket kind nth answer → ComesNoFurther old new
  fault_stands kind nth (fault.Skip was now) by = stands_still old new by.1
  fault_stands kind nth (fault.Struck number) by = never by.0
