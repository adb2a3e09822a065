-- What a generated job keeps.
use Rattle.std.proofs.Common.{List, [], ◌∷◌, ◌++◌, ℕ, zero, suc, ◌+◌, ◌<◌, ◌≤◌, ◌≡◌, Bool, true, false, cond, eqb, length, length-append, refl, arith}
use Rattle.std.specs.List.{AllByRecursion}
use Rattle.std.proofs.Math.Nat.{mod-lt}
use Rattle.std.proofs.lemmas.Bool.{cond_both}
use Rattle.rand_pcg.specs.Pcg.{pcg32}
use Rattle.mb_jobs.specs.declared.jobs.JobCall.{JobCall}
use Rattle.mb_jobs.specs.Lists.{added_exit, exit_at, exits_from, lacks_exit, with_exits}
use Rattle.mb_gen.specs.Calls.{call_drawn, calls_drawn, close_call, creat_call, fill_call, lseek_call, open_call, read_call, row_drawn, stat_call, unlink_call}
use Rattle.mb_gen.specs.Draws.{drawn, of_one, of_three, of_two}
use Rattle.mb_gen.specs.Faults.{rule_drawn, rules_drawn}
use Rattle.mb_gen.specs.Generator.{draws_of, job_drawn, the_callers}
use Rattle.mb_gen.specs.Laws.{GeneratedAreFit, IsFitToRun, IsReadOfText, StrikesFirst}
use Rattle.mb_gen.proofs.Reading.{close_read, creat_read, fill_read, lseek_read, open_read, read_read, stat_read, unlink_read}

all_with : {A : Type 0} (P : A → Type 0) (xs ys : List A) → AllByRecursion P xs → AllByRecursion P ys → AllByRecursion P (xs ++ ys)
all_with P [] ys some more = more
all_with P (x ∷ xs) ys some more = (some.0, all_with P xs ys some.1 more)

abbrev IsNamed : JobCall → Type 0
IsNamed made = made.caller < 2

either : {G : Type 0} (P : JobCall → Type 0) (b : Bool) (one other : JobCall × G) → P one.0 → P other.0 → P (cond b one other).0
either P true one other first second = first
either P false one other first second = second

module _ {G : Type 0} (step : G → ℕ × G) where
  below : (bound : ℕ) (draws : G) → 0 < bound → (drawn step bound draws).0 < bound
  below bound draws some = mod-lt (step draws).0 some

  -- what holds of each row's calls holds of the call that is drawn
  row_holds : (P : JobCall → Type 0) (caller : ℕ)
      → ((name : ℕ) → name < 16 → P (creat_call caller name)) → ((name : ℕ) → name < 16 → P (open_call caller name))
      → ((fd count byte : ℕ) → fd < 4 → count < 512 → byte < 256 → P (fill_call caller fd count byte)) → ((fd count : ℕ) → fd < 4 → count < 512 → P (read_call caller fd count))
      → ((fd : ℕ) → fd < 4 → P (close_call caller fd)) → ((name : ℕ) → name < 16 → P (unlink_call caller name)) → ((name : ℕ) → name < 16 → P (stat_call caller name))
      → ((fd offset : ℕ) → fd < 4 → offset < 8192 → P (lseek_call caller fd offset)) → (row : ℕ) (draws : G) → P (row_drawn step caller row draws).0
  row_holds P caller creat opens fill reads close unlink stat lseek row draws =
      let name = below 16 draws (omega arith) in
      let fd = below 4 draws (omega arith) in
      let next = (step draws).1 in
      let count = below 512 next (omega arith) in
      either P (eqb row 0) (of_one step 16 (creat_call caller) draws) _ (creat _ name) (
      either P (eqb row 1) (of_one step 16 (open_call caller) draws) _ (opens _ name) (
      either P (eqb row 2) (of_three step 4 512 256 (fill_call caller) draws) _ (fill _ _ _ fd count (below 256 (step next).1 (omega arith))) (
      either P (eqb row 3) (of_two step 4 512 (read_call caller) draws) _ (reads _ _ fd count) (
      either P (eqb row 4) (of_one step 4 (close_call caller) draws) _ (close _ fd) (
      either P (eqb row 5) (of_one step 16 (unlink_call caller) draws) _ (unlink _ name) (
      either P (eqb row 6) (of_one step 16 (stat_call caller) draws) (of_two step 4 8192 (lseek_call caller) draws) (stat _ name) (lseek _ _ fd (below 8192 next (omega arith)))))))))

  row_named : (caller row : ℕ) (draws : G) → caller < 2 → IsNamed (row_drawn step caller row draws).0
  row_named caller row draws low =
      row_holds IsNamed caller (λ name small. low) (λ name small. low) (λ fd count byte a b c. low) (λ fd count a b. low) (λ fd a. low) (λ name small. low) (λ name small. low) (λ fd offset a b. low) row draws

  row_read : (caller row : ℕ) (draws : G) → IsReadOfText (row_drawn step caller row draws).0
  row_read caller row draws =
      row_holds IsReadOfText caller (creat_read caller) (open_read caller) (fill_read caller) (read_read caller) (close_read caller) (unlink_read caller) (stat_read caller) (lseek_read caller) row draws

  call_named : (draws : G) → IsNamed (call_drawn step draws).0
  call_named draws =
      let caller = drawn step 2 draws in
      row_named caller.0 (drawn step 8 caller.1).0 (drawn step 8 caller.1).1 (below 2 draws (omega arith))

  call_read : (draws : G) → IsReadOfText (call_drawn step draws).0
  call_read draws =
      let caller = drawn step 2 draws in
      row_read caller.0 (drawn step 8 caller.1).0 (drawn step 8 caller.1).1

  calls_hold : (P : JobCall → Type 0) → ((draws : G) → P (call_drawn step draws).0) → (count : ℕ) (draws : G) → AllByRecursion P (calls_drawn step count draws).0
  unfolding calls_drawn
  calls_hold P each zero draws = tt
  calls_hold P each (suc count) draws = all_with P (calls_drawn step count draws).0 _ (calls_hold P each count draws) (each (calls_drawn step count draws).1, tt)

  calls_size : (count : ℕ) (draws : G) → length (calls_drawn step count draws).0 ≡ count
  unfolding calls_drawn
  calls_size zero draws = refl
  calls_size (suc count) draws =
      let before = calls_size count draws in
      let whole = length-append (calls_drawn step count draws).0 ((call_drawn step (calls_drawn step count draws).1).0 ∷ []) in
      omega (arith, before, whole)

  rules_strike : (calls : List JobCall) (bound count : ℕ) (draws : G) → AllByRecursion StrikesFirst (rules_drawn step calls bound count draws).0
  unfolding rules_drawn
  rules_strike calls bound zero draws = tt
  rules_strike calls bound (suc count) draws =
      all_with StrikesFirst (rules_drawn step calls bound count draws).0 _ (rules_strike calls bound count draws) (record { first = refl; once = refl }, tt)

  rules_size : (calls : List JobCall) (bound count : ℕ) (draws : G) → length (rules_drawn step calls bound count draws).0 ≡ count
  unfolding rules_drawn
  rules_size calls bound zero draws = refl
  rules_size calls bound (suc count) draws =
      let before = rules_size calls bound count draws in
      let rules = rules_drawn step calls bound count draws in
      let whole = length-append rules.0 ((rule_drawn step calls bound rules.1).0 ∷ []) in
      omega (arith, before, whole)

-- what holds of an `exit` of either caller holds of those that are added
exits_hold : (P : JobCall → Type 0) (calls : List JobCall) (place : ℕ) → P (added_exit place) → AllByRecursion P (exit_at calls place)
exits_hold P calls place is = cond_both (lacks_exit calls place) (added_exit place ∷ []) [] (AllByRecursion P) (λ _. (is, tt)) (λ _. tt)

all_hold : (P : JobCall → Type 0) (calls : List JobCall) → P (added_exit 0) → P (added_exit 1) → AllByRecursion P calls → AllByRecursion P (with_exits the_callers calls)
all_hold P calls first second each =
    all_with P calls (exits_from calls 0 the_callers) each
    (all_with P (exit_at calls 0) _ (exits_hold P calls 0 first) (all_with P (exit_at calls 1) [] (exits_hold P calls 1 second) tt))

exit_few : (calls : List JobCall) (place : ℕ) → length (exit_at calls place) ≤ 1
exit_few calls place = cond_both (lacks_exit calls place) (added_exit place ∷ []) [] (λ (exits : List JobCall). length exits ≤ 1) (λ _. omega arith) (λ _. omega arith)

all_few : (calls : List JobCall) → length (with_exits the_callers calls) ≤ length calls + 2
all_few calls =
    let whole = length-append calls (exits_from calls 0 the_callers) in
    let exits = length-append (exit_at calls 0) (exit_at calls 1 ++ []) in
    let last = length-append (exit_at calls 1) [] in
    let first = exit_few calls 0 in
    let second = exit_few calls 1 in
    omega (arith, whole, exits, last, first, second)

drawn_fit : {G : Type 0} (step : G → ℕ × G) (calls faults : ℕ) (draws : G) → calls ≤ 32768 → IsFitToRun faults (job_drawn step calls faults draws)
drawn_fit step calls faults draws few = record {
  letters = refl;
  named = all_hold IsNamed (calls_drawn step calls draws).0 (omega arith) (omega arith) (calls_hold step IsNamed (call_named step) calls draws);
  read = all_hold IsReadOfText (calls_drawn step calls draws).0 refl refl (calls_hold step IsReadOfText (call_read step) calls draws);
  short = (let size = calls_size step calls draws in let all = all_few (calls_drawn step calls draws).0 in omega (arith, size, all));
  start = refl;
  threshold = refl;
  limit = refl;
  rules = rules_size step (with_exits the_callers (calls_drawn step calls draws).0) calls faults (calls_drawn step calls draws).1;
  strikes = rules_strike step (with_exits the_callers (calls_drawn step calls draws).0) calls faults (calls_drawn step calls draws).1;
}

pub generated_are_fit : GeneratedAreFit
generated_are_fit number calls faults few = drawn_fit pcg32 calls faults (draws_of number) few
