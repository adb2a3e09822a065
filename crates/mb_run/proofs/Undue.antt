-- No event takes a checkpoint but where one is due, and none logs more operations than calls.
use Rattle.std.proofs.Common.{◌≡◌, List, [], ◌∷◌, ◌++◌, ℕ, ◌+◌, ◌≤◌, Bool, true, false, ◌||◌, None, refl, ap, sym, ◌∙◌, arith, length}
use Rattle.std.specs.Prelude.{nat_le}
use Rattle.std.proofs.lemmas.List.{append-nil}
use Rattle.std.proofs.lemmas.Option.{same_Some}
use Rattle.mb_core_spec.specs.Copies.{PagesState}
use Rattle.mb_core_spec.specs.declared.steps.Step.{Step}
use Rattle.mb_core_spec.specs.declared.steps.Step.TheVariants as step
use Rattle.mb_kinds.specs.declared.calls.Call.{Call}
use Rattle.mb_kinds.specs.declared.entries.Entry.{Entry}
use Rattle.mb_kinds.specs.declared.entries.Flight.{Flight}
use Rattle.mb_kinds.specs.declared.faults.Ticket.{Ticket}
use Rattle.mb_kinds.specs.declared.replies.Reply.{Reply}
use Rattle.mb_run.specs.Events.{Answers, IsCallOf, IsStale, KeepsLog, Logs, LogsInTime, SealsIf, entry_of, sealed}
use Rattle.mb_run.specs.Seals.{is_due, is_sync, is_sync_of, logged_since, undue}
use Rattle.mb_run.specs.Sights.{SeatHasTicket, Limits, Sight, since_in, undue_in}
use Rattle.mb_run.proofs.Sealings.{due_by, due_undue, logged_undue, marks_undue, sealed_undue, stale_undue, sync_last}

-- ---- what an event does to the trace

module _ (old new : Sight) (config : new.config ≡ old.config) where
  undue_is : (history : List Entry) (trail : List Step) → new.history ≡ history → new.trail ≡ trail → undue_in new ≡ undue old.config.threshold history trail
  undue_is history trail grown goes =
      ap (λ (limits : Limits). undue limits.threshold new.history new.trail) config
      ∙ ap (λ (h : List Entry). undue old.config.threshold h new.trail) grown
      ∙ ap (λ (t : List Step). undue old.config.threshold history t) goes

  -- entries may come
  pub more_undue : (more : List Entry) → KeepsLog old new → new.history ≡ old.history ++ more → undue_in new ≤ undue_in old
  more_undue more log grown =
      let is = undue_is (old.history ++ more) new.trail grown refl in
      let low = marks_undue old.config.threshold old.history more old.trail new.trail log.trail in
      omega (arith, is, low)

  -- or none
  pub still_undue : KeepsLog old new → new.history ≡ old.history → undue_in new ≤ undue_in old
  still_undue log same = more_undue [] log (same ∙ sym (append-nil old.history))

  pub entry_undue : (entry : Entry) → KeepsLog old new → new.history ≡ old.history ++ entry ∷ [] → undue_in new ≤ undue_in old
  entry_undue entry log grown = more_undue (entry ∷ []) log grown

-- a call is told that a copy is stale
pub stale_undue_in : (caller : ℕ) (old new : Sight) (pages : PagesState) → IsStale caller old new pages → undue_in new ≤ undue_in old
stale_undue_in caller old new pages stale =
    let is = undue_is old new stale.stays.config (old.history ++ []) (old.trail ++ step.Stale stale.ticket stale.block ∷ []) (stale.counts.history ∙ sym (append-nil old.history)) stale.trail in
    let low = stale_undue old.config.threshold old.history [] old.trail stale.ticket stale.block in
    omega (arith, is, low)

-- a call is logged
pub logs_undue : (caller : ℕ) (old new : Sight) (ticket : Ticket) → Logs caller old new ticket → undue_in new ≤ undue_in old
logs_undue caller old new ticket logs =
    let entry = entry_of caller logs.flight logs.pick logs.answer in
    let is = undue_is old new logs.stays.config (old.history ++ entry ∷ []) (old.trail ++ step.Logged ticket ∷ []) logs.history logs.trail in
    let low = logged_undue old.config.threshold old.history (entry ∷ []) old.trail ticket in
    omega (arith, is, low)

-- a checkpoint is taken
pub seal_undue : (old new : Sight) → new ≡ sealed old new → undue_in new ≤ undue_in old + 1
seal_undue old new is =
    let same = ap undue_in is in
    let more = sealed_undue old.config.threshold (length old.history) old.history old.trail in
    omega (arith, same, more)

-- a call is logged, and the checkpoint that is due is taken
module _ (old new : Sight) (ticket : Ticket) (call : Call) (has : SeatHasTicket false (old.seats ticket.caller) ticket) (of : IsCallOf (old.seats ticket.caller) call) (covers : old.ops ≤ since_in old) (in_time : LogsInTime ticket.caller old new ticket call) where
  abbrev logged : Sight
  logged = in_time.logged

  abbrev entry : Entry
  entry = entry_of ticket.caller in_time.logs.flight in_time.logs.pick in_time.logs.answer

  flight_is : in_time.logs.flight ≡ has.flight
  flight_is = same_Some in_time.logs.flight has.flight (sym in_time.logs.was ∙ has.here)

  is_last : is_sync call ≡ true → is_sync_of (old.history ++ entry ∷ []) ticket ≡ true
  is_last sync = sync_last old.history entry ticket refl (ap (λ (f : Flight). f.ordinal) flight_is ∙ sym has.ordinal) (ap is_sync (of in_time.logs.flight in_time.logs.was) ∙ sync)

  abbrev since : ℕ
  since = logged_since old.config.threshold old.history old.trail

  is_reached : is_due logged.config.threshold logged.ops call ≡ true → (nat_le old.config.threshold (since + 1) || is_sync_of (old.history ++ entry ∷ []) ticket) ≡ true
  is_reached due =
      let more = in_time.logs.ops in
      let low : logged.ops ≤ since + 1 = omega (arith, more, covers) in
      due_by old.config.threshold logged.ops (since + 1) call (is_sync_of (old.history ++ entry ∷ []) ticket) low is_last
      (ap (λ (limits : Limits). is_due limits.threshold logged.ops call) (sym in_time.logs.stays.config) ∙ due)

  sealed_if : (due : Bool) → is_due logged.config.threshold logged.ops call ≡ due → SealsIf due logged new → undue_in new ≤ undue_in old
  sealed_if true due seals =
      let is = undue_is old new (ap (λ (s : Sight). s.config) seals ∙ in_time.logs.stays.config) (old.history ++ entry ∷ []) ((old.trail ++ step.Logged ticket ∷ []) ++ step.Sealed (length logged.history) ∷ [])
      (ap (λ (s : Sight). s.history) seals ∙ in_time.logs.history) (ap (λ (s : Sight). s.trail) seals ∙ ap (λ (t : List Step). t ++ step.Sealed (length logged.history) ∷ []) in_time.logs.trail) in
      let low = due_undue old.config.threshold old.history (entry ∷ []) old.trail ticket (length logged.history) (is_reached due) in
      omega (arith, is, low)
  sealed_if false due seals =
      let same = ap undue_in seals in
      let low = logs_undue ticket.caller old logged ticket in_time.logs in
      omega (arith, same, low)

  pub in_time_undue : undue_in new ≤ undue_in old
  in_time_undue = sealed_if (is_due logged.config.threshold logged.ops call) refl in_time.seals

-- a call ends
pub answers_undue : (caller : ℕ) (flight : Flight) (answer : Reply) (old new : Sight) → Answers caller flight answer old new → undue_in new ≤ undue_in old
answers_undue caller flight answer old new answers = entry_undue old new answers.stays.config (entry_of caller flight None answer) answers.log answers.history
