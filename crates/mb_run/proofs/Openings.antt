-- Entries in line, of calls that are answered without having gone in.
use Rattle.std.proofs.Common.{◌≡◌, ℕ, ◌+◌, false, refl, ap, sym, subst, ◌∙◌, add-zero, None, Some}
use Rattle.mb_kinds.specs.declared.calls.Call.{Call}
use Rattle.mb_kinds.specs.declared.entries.Flight.{Flight}
use Rattle.mb_kinds.specs.declared.replies.Reply.{Reply}
use Rattle.mb_run.specs.Events.{Answers, entry_of}
use Rattle.mb_run.specs.Served.{InLine, LineBy, LineOf}
use Rattle.mb_run.specs.Sights.{Sight, flight_of, is_new, one_if}
use Rattle.mb_run.proofs.Lines.{line_begins, lined_push}

pub line_answers : (caller : ℕ) (flight : Flight) (answer : Reply) (old new : Sight) → Answers caller flight answer old new → flight.answered ≡ false → LineBy old.config.start old.history new.begun (Some flight) → InLine caller new
line_answers caller flight answer old new answers lacks line =
    let open_one = subst (LineOf old.config.start old.history new.begun flight) lacks line in
    rw (answers.mine, answers.stays.config, answers.history) (lined_push old.config.start new.begun old.history (entry_of caller flight None answer) open_one.0 open_one.1 open_one.2)

pub line_made : (caller : ℕ) (call : Call) (answer : Reply) (old new : Sight) → Answers caller (flight_of old caller call (old.seats caller).flight) answer old new → InLine caller old
    → LineBy old.config.start old.history new.begun (Some (flight_of old caller call (old.seats caller).flight))
line_made caller call answer old new answers line =
    subst (λ n. LineBy old.config.start old.history n (Some (flight_of old caller call (old.seats caller).flight))) (sym answers.begun)
    (line_begins old.config.start old.history old caller call (old.seats caller).flight (flight_of old caller call (old.seats caller).flight) refl line refl refl)

pub line_open : (caller : ℕ) (flight : Flight) (answer : Reply) (old new : Sight) → Answers caller flight answer old new → (old.seats caller).flight ≡ Some flight → InLine caller old → LineBy old.config.start old.history new.begun (Some flight)
line_open caller flight answer old new answers here line =
    let none : one_if (is_new (old.seats caller).flight) ≡ 0 = ap (λ f. one_if (is_new f)) here in
    let same : new.begun ≡ old.begun = answers.begun ∙ ap (λ n. old.begun + n) none ∙ add-zero old.begun in
    subst (λ n. LineBy old.config.start old.history n (Some flight)) (sym same) (subst (LineBy old.config.start old.history old.begun) here line)
