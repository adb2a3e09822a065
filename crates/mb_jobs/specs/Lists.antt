-- A job's list of calls: whose each of them is, what it may follow, and the calls that are added.
use Rattle.std.specs.Prelude.{List, [], ◌∷◌, ◌++◌, ℕ, ◌+◌, ◌<◌, ◌≤◌, ◌≡◌, ◌==◌, ◌&&◌, Bool, true, false, not, nat_eq, nat_le, nat_lt, codes, length, sum_by, slice_index_or, Option, Some, None, Result, if◌then◌else◌}
use Rattle.std.specs.List.{count_by, list_any, position_or_len}
use Rattle.mb_kinds.specs.declared.calls.Call.{Call}
use Rattle.mb_kinds.specs.declared.calls.Call.TheVariants.{Read, Write, Exit}
use Rattle.mb_jobs.specs.declared.jobs.Caller.{Caller}
use Rattle.mb_jobs.specs.declared.jobs.JobCall.{JobCall}
use Rattle.mb_jobs.specs.Calls.{line_call}
use Rattle.mb_jobs.specs.Folds.{read_all}

-- the place of the first caller with a letter, and the number of callers where none has it
abbrev pub place_of_letter : List Caller → ℕ → ℕ
place_of_letter callers letter = position_or_len (λ (caller : Caller). nat_eq caller.letter letter) callers

abbrev pub place_in : List Caller → ℕ → Option ℕ
place_in callers letter = if nat_lt (place_of_letter callers letter) (length callers) then Some (place_of_letter callers letter) else None

-- a call of a caller, with its text
abbrev pub call_by : Option ℕ → List ℕ → Option Call → Option JobCall
call_by (Some place) line (Some call) = Some (record { caller = place; text = line; call = call })
call_by place line call = None

-- the call that a text writes: the caller's letter, a blank (32), and the call's own text
abbrev pub call_in : List Caller → List ℕ → Option JobCall
call_in callers (letter ∷ blank ∷ line) = if blank == 32 then call_by (place_in callers letter) line (line_call line) else None
call_in callers text = None

-- the bytes that a call moves (V7 read(2), write(2))
abbrev pub moved_by : Call → ℕ
moved_by (Read fd count) = count
moved_by (Write fd bytes) = length bytes
moved_by _ = 0

abbrev pub count_of : JobCall → ℕ
count_of job_call = moved_by job_call.call

abbrev pub is_exit : Call → Bool
is_exit Exit = true
is_exit _ = false

-- a caller has a call among some, and has ended by an `exit`
abbrev pub has_call : List JobCall → ℕ → Bool
has_call calls caller = list_any (λ (call : JobCall). nat_eq call.caller caller) calls

abbrev pub has_ended : List JobCall → ℕ → Bool
has_ended calls caller = list_any (λ (call : JobCall). nat_eq call.caller caller && is_exit call.call) calls

-- a call may follow others: the index of a call is at most 100,000, the sum of the bytes is at most 16,777,216, and its caller has not ended
abbrev pub may_follow : List JobCall → JobCall → Bool
may_follow before call =
    (nat_lt (length before) 100000 && nat_le (sum_by count_of before + count_of call) 16777216) && not (has_ended before call.caller)

abbrev pub where_it_may : List JobCall → Option JobCall → Option JobCall
where_it_may before (Some call) = if may_follow before call then Some call else None
where_it_may before None = None

abbrev pub next_call : List Caller → List JobCall → List ℕ → Option JobCall
next_call callers before text = where_it_may before (call_in callers text)

-- the calls of a list of texts, or the first text that writes none there
abbrev pub calls_in : List Caller → List (List ℕ) → Result (List JobCall) ℕ
calls_in callers texts = read_all (next_call callers) [] texts

-- the `exit` that is added for a caller
abbrev pub added_exit : ℕ → JobCall
added_exit place = record { caller = place; text = codes "exit"; call = Exit }

-- a caller has a call, and the last of its calls is no `exit`
abbrev pub lacks_exit : List JobCall → ℕ → Bool
lacks_exit calls place = has_call calls place && not (has_ended calls place)

-- the call that is added for the caller at a place, where one is
abbrev pub exit_at : List JobCall → ℕ → List JobCall
exit_at calls place = if lacks_exit calls place then added_exit place ∷ [] else []

-- the added calls of the callers from a place on, in the callers' order
abbrev pub exits_from : List JobCall → ℕ → List Caller → List JobCall
exits_from calls place [] = []
exits_from calls place (caller ∷ more) = exit_at calls place ++ exits_from calls (place + 1) more

abbrev pub with_exits : List Caller → List JobCall → List JobCall
with_exits callers calls = calls ++ exits_from calls 0 callers

-- how many calls of a caller there are
abbrev pub calls_of : List JobCall → ℕ → ℕ
calls_of calls caller = count_by (λ (call : JobCall). nat_eq call.caller caller) calls

-- for each call behind others its place among its caller's calls, counted from 1
abbrev pub ordinals_after : List JobCall → List JobCall → List ℕ
ordinals_after before [] = []
ordinals_after before (call ∷ more) = (calls_of before call.caller + 1) ∷ ordinals_after (before ++ call ∷ []) more

abbrev pub ordinals : List JobCall → List ℕ
ordinals calls = ordinals_after [] calls

-- what is kept of the calls that are read so far: the bytes that they move, and whether each caller has ended
pub record IsListed (calls : List JobCall) (moved : ℕ) (ended : List Bool) : Type 0 where
  pub few : length calls ≤ 100000
  pub sum : moved ≡ sum_by count_of calls
  pub small : moved ≤ 16777216
  pub marks : (caller : ℕ) → caller < 256 → slice_index_or ended caller false ≡ has_ended calls caller
