-- Calls that were begun, entries, and calls in flight without one, event by event; and whether a call has its entry.
use Rattle.std.proofs.Common.{◌≡◌, ◌∷◌, ◌++◌, [], ℕ, ◌+◌, Bool, true, false, length, refl, ap, sym, subst, ◌∙◌, arith, Option, None, Some, length-append}
use Rattle.mb_kinds.specs.declared.calls.Call.{Call}
use Rattle.mb_kinds.specs.declared.entries.Entry.{Entry}
use Rattle.mb_kinds.specs.declared.entries.Flight.{Flight}
use Rattle.mb_kinds.specs.declared.faults.Ticket.{Ticket}
use Rattle.mb_kinds.specs.declared.replies.Reply.{Reply}
use Rattle.mb_core_spec.specs.declared.steps.Step.TheVariants as step
use Rattle.mb_run.specs.Events.{Answers, BeginsFlight, LeavesOthersAlone, Logs, SameCalls, SealsIf, entry_of, sealed}
use Rattle.mb_run.specs.Seals.{TrailGoesOn}
use Rattle.mb_run.proofs.Trails.{trail_put, trail_then}
use Rattle.mb_run.specs.Served.{IsBalanced, IsMarked}
use Rattle.mb_run.specs.Sights.{Sight, flight_of}

pub balanced_same : (old new : Sight) → SameCalls old new → IsBalanced old → IsBalanced new
balanced_same old new counts even = counts.begun ∙ even ∙ ap (λ es. length es + old.open_calls) (sym counts.history) ∙ ap (λ n. length new.history + n) (sym counts.open_calls)

pub balanced_begins : (caller : ℕ) (flight : Flight) (old new : Sight) → BeginsFlight caller flight old new → IsBalanced old → IsBalanced new
balanced_begins caller flight old new begins even =
    let same : length new.history ≡ length old.history = ap length begins.history in
    omega (arith, begins.begun, begins.open_calls, even, same)

more_by : (old new : Sight) (entry : Entry) → new.history ≡ old.history ++ entry ∷ [] → length new.history ≡ length old.history + 1
more_by old new entry more = ap length more ∙ length-append old.history (entry ∷ [])

pub balanced_answers : (caller : ℕ) (flight : Flight) (answer : Reply) (old new : Sight) → Answers caller flight answer old new → IsBalanced old → IsBalanced new
balanced_answers caller flight answer old new answers even =
    let more = more_by old new (entry_of caller flight None answer) answers.history in
    omega (arith, answers.begun, answers.open_calls, even, more)

-- a call gets its entry, and the trace goes on: with the step that logs it, and with the checkpoint that is then due
pub record LogsCall (caller : ℕ) (old new : Sight) : Type 0 where
  pub stays : LeavesOthersAlone caller old new
  pub flight : Flight
  pub was : (old.seats caller).flight ≡ Some flight
  pub mine : new.seats caller ≡ record { begun = flight.ordinal; flight = Some (record flight { answered = true }) }
  pub pick : Option ℕ
  pub answer : Reply
  pub history : new.history ≡ old.history ++ entry_of caller flight pick answer ∷ []
  pub begun : new.begun ≡ old.begun
  pub open_calls : new.open_calls + 1 ≡ old.open_calls
  pub floor : new.floor ≡ None
  pub trail : TrailGoesOn old.trail new.trail

logs_call : (caller : ℕ) (old new : Sight) (ticket : Ticket) → Logs caller old new ticket → LogsCall caller old new
logs_call caller old new ticket logs = record {
  stays = logs.stays;
  flight = logs.flight;
  was = logs.was;
  mine = logs.mine;
  pick = logs.pick;
  answer = logs.answer;
  history = logs.history;
  begun = logs.begun;
  open_calls = logs.open_calls;
  floor = logs.floor;
  trail = trail_put old.trail (step.Logged ticket ∷ []) new.trail logs.trail;
}

logs_sealed : (caller : ℕ) (old mid new : Sight) (ticket : Ticket) → Logs caller old mid ticket → LogsCall caller old (sealed mid new)
logs_sealed caller old mid new ticket logs = record {
  stays = record { config = logs.stays.config; records = logs.stays.records; stage = logs.stays.stage; incarnation = logs.stays.incarnation; seats = logs.stays.seats; copies = logs.stays.copies; stales = logs.stays.stales };
  flight = logs.flight;
  was = logs.was;
  mine = logs.mine;
  pick = logs.pick;
  answer = logs.answer;
  history = logs.history;
  begun = logs.begun;
  open_calls = logs.open_calls;
  floor = logs.floor;
  trail = trail_then old.trail mid.trail (sealed mid new).trail (trail_put old.trail (step.Logged ticket ∷ []) mid.trail logs.trail) (trail_put mid.trail (step.Sealed (length mid.history) ∷ []) (sealed mid new).trail refl);
}

pub logs_if : (caller : ℕ) (old mid new : Sight) (ticket : Ticket) (due : Bool) → Logs caller old mid ticket → SealsIf due mid new → LogsCall caller old new
logs_if caller old mid new ticket true logs seals = subst (LogsCall caller old) (sym seals) (logs_sealed caller old mid new ticket logs)
logs_if caller old mid new ticket false logs seals = subst (LogsCall caller old) (sym seals) (logs_call caller old mid ticket logs)

pub balanced_logs : (caller : ℕ) (old new : Sight) → LogsCall caller old new → IsBalanced old → IsBalanced new
balanced_logs caller old new logs even =
    let more = more_by old new (entry_of caller logs.flight logs.pick logs.answer) logs.history in
    omega (arith, logs.begun, logs.open_calls, even, more)

-- ---- whether the call in flight has its entry

pub marked_begins : (answered : Bool) (sight : Sight) (caller : ℕ) (call : Call) (before : Option Flight) → IsMarked answered before → IsMarked answered (Some (flight_of sight caller call before))
marked_begins answered sight caller call None marked = sym marked
marked_begins answered sight caller call (Some flight) marked = marked

pub marked_lacks : (answered : Bool) (sight : Sight) (caller : ℕ) (call : Call) (before : Option Flight) → IsMarked answered before → (flight_of sight caller call before).answered ≡ false → answered ≡ false
marked_lacks answered sight caller call None marked lacks = marked
marked_lacks answered sight caller call (Some flight) marked lacks = sym marked ∙ lacks

pub marked_here : (answered : Bool) (before : Option Flight) (flight : Flight) → before ≡ Some flight → flight.answered ≡ false → IsMarked answered before → answered ≡ false
marked_here answered before flight here lacks marked = sym (subst (IsMarked answered) here marked) ∙ lacks
