-- The calls of a job that a text writes, with the added exits.
use Rattle.std.proofs.Common.{◌≡◌, List, [], ◌∷◌, ◌++◌, ℕ, ◌+◌, ◌<◌, ◌≤◌, Bool, true, false, cond, nat_eq, nat_lt, nat_le, Option, None, Some, Ok, length, length-append, ap, sym, ◌∙◌, arith}
use Rattle.std.specs.Prelude.{◌&&◌, not, sum_by}
use Rattle.std.proofs.lemmas.Bool.{and_parts, ltb-true}
use Rattle.std.proofs.lemmas.Option.{same_Some}
use Rattle.std.specs.List.{AllByRecursion}
use Rattle.mb_kinds.specs.declared.calls.Call.{Call}
use Rattle.mb_jobs.specs.declared.jobs.Caller.{Caller}
use Rattle.mb_jobs.specs.declared.jobs.JobCall.{JobCall}
use Rattle.mb_jobs.specs.Calls.{line_call}
use Rattle.mb_jobs.specs.Lists.{added_exit, call_by, call_in, calls_in, count_of, exit_at, exits_from, has_ended, lacks_exit, may_follow, next_call, place_in, place_of_letter, where_it_may, with_exits}
use Rattle.mb_headline.proofs.Reading.{all_with, no_some, read_keeps, when_some}

-- each call is one of so many callers
abbrev pub AreNamed : ℕ → List JobCall → Type 0
AreNamed callers calls = AllByRecursion (λ (made : JobCall). made.caller < callers) calls

place_within : (callers : List Caller) (letter place : ℕ) → place_in callers letter ≡ Some place → place < length callers
place_within callers letter place is =
    let test = when_some (nat_lt (place_of_letter callers letter) (length callers)) (Some (place_of_letter callers letter)) place is in
    let low = ltb-true (place_of_letter callers letter) (length callers) test.0 in
    let same = same_Some (place_of_letter callers letter) place test.1 in omega (arith, low, same)

caller_found : (place : Option ℕ) (line : List ℕ) (call : Option Call) (made : JobCall) → call_by place line call ≡ Some made → place ≡ Some made.caller
caller_found (Some place) line (Some call) made is = ap (λ (m : JobCall). Some m.caller) (same_Some (record { caller = place; text = line; call = call }) made is)
caller_found (Some place) line None made is = absurd (no_some made is)
caller_found None line call made is = absurd (no_some made is)

named_by : (callers : List Caller) (text : List ℕ) (made : JobCall) → call_in callers text ≡ Some made → made.caller < length callers
named_by callers [] made is = absurd (no_some made is)
named_by callers (letter ∷ []) made is = absurd (no_some made is)
named_by callers (letter ∷ blank ∷ line) made is =
    let test = when_some (nat_eq blank 32) (call_by (place_in callers letter) line (line_call line)) made is in
    place_within callers letter made.caller (caller_found (place_in callers letter) line (line_call line) made test.1)

where_found : (before : List JobCall) (found : Option JobCall) (made : JobCall) → where_it_may before found ≡ Some made → (may_follow before made ≡ true) × (found ≡ Some made)
where_found before (Some call) made is =
    let test = when_some (may_follow before call) (Some call) made is in
    (ap (may_follow before) (sym (same_Some call made test.1)) ∙ test.0, test.1)
where_found before None made is = absurd (no_some made is)

before_few : (before : List JobCall) (made : JobCall) → may_follow before made ≡ true → length before < 100000
before_few before made may =
    let outer = and_parts (nat_lt (length before) 100000 && nat_le (sum_by count_of before + count_of made) 16777216) (not (has_ended before made.caller)) may in
    let inner = and_parts (nat_lt (length before) 100000) (nat_le (sum_by count_of before + count_of made) 16777216) outer.0 in
    ltb-true (length before) 100000 inner.0

-- the calls that are read
record AreRead (callers : ℕ) (calls : List JobCall) : Type 0 where
  few : length calls ≤ 100000
  named : AreNamed callers calls

one_more : (callers : List Caller) (before : List JobCall) (text : List ℕ) (made : JobCall) → AreRead (length callers) before → next_call callers before text ≡ Some made → AreRead (length callers) (before ++ made ∷ [])
one_more callers before text made read is =
    let found = where_found before (call_in callers text) made is in
    record {
      few = (let low = before_few before made found.0 in let last = length-append before (made ∷ []) in omega (arith, low, last));
      named = all_with (λ (m : JobCall). m.caller < length callers) before (made ∷ []) read.named (named_by callers text made found.1, tt);
    }

calls_read : (callers : List Caller) (texts : List (List ℕ)) (calls : List JobCall) → calls_in callers texts ≡ Ok calls → AreRead (length callers) calls
calls_read callers texts calls is = read_keeps (next_call callers) (AreRead (length callers)) (one_more callers) [] texts calls (record { few = omega arith; named = tt }) is

-- ---- the added exits

exit_few : (calls : List JobCall) (place : ℕ) (b : Bool) → length (cond b (added_exit place ∷ []) []) ≤ 1
exit_few calls place true = omega arith
exit_few calls place false = omega arith

exits_few : (calls : List JobCall) (place : ℕ) (callers : List Caller) → length (exits_from calls place callers) ≤ length callers
exits_few calls place [] = omega arith
exits_few calls place (caller ∷ more) =
    let one = exit_few calls place (lacks_exit calls place) in
    let rest = exits_few calls (place + 1) more in
    let whole = length-append (exit_at calls place) (exits_from calls (place + 1) more) in omega (arith, one, rest, whole)

exit_named : (place callers : ℕ) (b : Bool) → place < callers → AreNamed callers (cond b (added_exit place ∷ []) [])
exit_named place callers true low = (low, tt)
exit_named place callers false low = tt

exits_named : (calls : List JobCall) (place n : ℕ) (callers : List Caller) → place + length callers ≤ n → AreNamed n (exits_from calls place callers)
exits_named calls place n [] fits = tt
exits_named calls place n (caller ∷ more) fits =
    all_with (λ (m : JobCall). m.caller < n) (exit_at calls place) (exits_from calls (place + 1) more) (exit_named place n (lacks_exit calls place) (omega (arith, fits))) (exits_named calls (place + 1) n more (omega (arith, fits)))

-- ---- the whole

pub all_named : (callers : List Caller) (texts : List (List ℕ)) (calls : List JobCall) → calls_in callers texts ≡ Ok calls → AreNamed (length callers) (with_exits callers calls)
all_named callers texts calls is =
    all_with (λ (m : JobCall). m.caller < length callers) calls (exits_from calls 0 callers) (calls_read callers texts calls is).named (exits_named calls 0 (length callers) callers (omega arith))

pub all_few : (callers : List Caller) (texts : List (List ℕ)) (calls : List JobCall) → calls_in callers texts ≡ Ok calls → length (with_exits callers calls) ≤ 100000 + length callers
all_few callers texts calls is =
    let read = (calls_read callers texts calls is).few in
    let added = exits_few calls 0 callers in
    let whole = length-append calls (exits_from calls 0 callers) in omega (arith, read, added, whole)
