-- Entries in the order of their moments, while only one caller acts.
use Rattle.std.proofs.Common.{◌≡◌, List, [], ◌∷◌, ◌++◌, ℕ, ◌+◌, Bool, true, false, length, map, refl, ap, sym, subst, ◌∙◌, arith, add-zero, Option, None, Some, length-append}
use Rattle.std.specs.List.{range_with_len}
use Rattle.std.proofs.lemmas.List.{map_push}
use Rattle.std.proofs.lemmas.List.FromFn.{map-range_with_len_more}
use Rattle.mb_kinds.specs.declared.calls.Call.{Call}
use Rattle.mb_kinds.specs.declared.entries.Entry.{Entry}
use Rattle.mb_kinds.specs.declared.entries.Flight.{Flight}
use Rattle.mb_run.specs.Events.{BeginsFlight, SameCalls, EndsFlight}
use Rattle.mb_run.specs.Served.{InLine, IsLined, LineBy, LineOf, moments_in}
use Rattle.mb_run.specs.Sights.{Sight, flight_of, is_new, one_if}

map_id : (xs : List ℕ) → map (λ (n : ℕ). n) xs ≡ xs
map_id [] = refl
map_id (x ∷ xs) = ap (λ ys. x ∷ ys) (map_id xs)

same_line : (start : ℕ) (history : List Entry) (begun : ℕ) (f flight : Flight) (b : Bool) → flight.moment ≡ f.moment → LineOf start history begun f b → LineOf start history begun flight b
same_line start history begun f flight true moment line = line
same_line start history begun f flight false moment line = (line.0, moment ∙ line.1, line.2)

range_push : (from count : ℕ) → range_with_len from (count + 1) ≡ range_with_len from count ++ (from + count) ∷ []
range_push from count = sym (map_id (range_with_len from (count + 1))) ∙ map-range_with_len_more (λ (n : ℕ). n) from count (from + count) refl ∙ ap (λ xs. xs ++ (from + count) ∷ []) (map_id (range_with_len from count))

-- one entry more, at the next moment
pub lined_push : (start begun : ℕ) (history : List Entry) (entry : Entry) → begun ≡ length history + 1 → entry.moment ≡ start + begun → moments_in history ≡ range_with_len (start + 1) (length history) → IsLined start (history ++ entry ∷ []) begun
lined_push start begun history entry counted at lined =
    let size : length (history ++ entry ∷ []) ≡ length history + 1 = length-append history (entry ∷ []) in
    let moment : entry.moment ≡ start + 1 + length history = omega arith in (
      counted ∙ sym size,
      map_push (λ (e : Entry). e.moment) history entry ∙ ap (λ ms. ms ++ entry.moment ∷ []) lined ∙ ap (λ n. range_with_len (start + 1) (length history) ++ n ∷ []) moment
          ∙ sym (range_push (start + 1) (length history)) ∙ ap (range_with_len (start + 1)) (sym size),
    )

pub line_begins : (start : ℕ) (history : List Entry) (sight : Sight) (caller : ℕ) (call : Call) (before : Option Flight) (flight : Flight) → sight.config.start ≡ start
    → LineBy start history sight.begun before → flight.moment ≡ (flight_of sight caller call before).moment → flight.answered ≡ (flight_of sight caller call before).answered
    → LineBy start history (sight.begun + one_if (is_new before)) (Some flight)
line_begins start history sight caller call None flight begins line moment answered =
    subst (λ b. LineOf start history (sight.begun + 1) flight b) (sym answered) (ap (λ n. n + 1) line.0, (omega (arith, moment, begins)), line.1)
line_begins start history sight caller call (Some f) flight begins line moment answered =
    subst (λ n. LineOf start history n flight flight.answered) (sym (add-zero sight.begun)) (subst (λ b. LineOf start history sight.begun flight b) (sym answered)
    (same_line start history sight.begun f flight f.answered moment line))

pub line_same : (caller : ℕ) (old new : Sight) → new.config ≡ old.config → SameCalls old new → new.seats caller ≡ old.seats caller → InLine caller old → InLine caller new
line_same caller old new config counts mine line = rw (config, counts.history, counts.begun, mine) line

pub line_enters : (caller : ℕ) (call : Call) (flight : Flight) (old new : Sight) → BeginsFlight caller flight old new → flight.moment ≡ (flight_of old caller call (old.seats caller).flight).moment → flight.answered ≡ (flight_of old caller call (old.seats caller).flight).answered
    → InLine caller old → InLine caller new
line_enters caller call flight old new begins moment answered line =
    rw (begins.stays.config, begins.mine, begins.history, begins.begun) (line_begins old.config.start old.history old caller call (old.seats caller).flight flight refl line moment answered)

pub line_leaves : (caller : ℕ) (flight : Flight) (old new : Sight) → EndsFlight caller flight old new → InLine caller old → InLine caller new
line_leaves caller flight old new leaves line =
    let was : LineOf old.config.start old.history old.begun flight flight.answered = subst (LineBy old.config.start old.history old.begun) leaves.was line in
    rw (leaves.stays.config, leaves.mine, leaves.counts.history, leaves.counts.begun) (subst (LineOf old.config.start old.history old.begun flight) leaves.answered was)

pub line_logs : (caller : ℕ) (flight : Flight) (old new : Sight) (entry : Entry) → (old.seats caller).flight ≡ Some flight → flight.answered ≡ false → new.config ≡ old.config → new.begun ≡ old.begun → entry.moment ≡ flight.moment → new.history ≡ old.history ++ entry ∷ []
    → InLine caller old → IsLined new.config.start new.history new.begun
line_logs caller flight old new entry was lacks config begun moment more line =
    let open_one = subst (LineOf old.config.start old.history old.begun flight) lacks (subst (LineBy old.config.start old.history old.begun) was line) in
    rw (config, more, begun) (lined_push old.config.start old.begun old.history entry open_one.0 (moment ∙ open_one.1) open_one.2)
