-- A job of which every call is answered.
use Rattle.std.proofs.Common.{◌≡◌, ◌≢◌, List, [], ◌∷◌, ℕ, zero, suc, ◌+◌, ◌<◌, ◌≤◌, Bool, true, false, cond, nat_eq, inl, inr, refl, ap, sym, subst, ◌∙◌, arith, add-zero, Option, None, Some, length, filter, map, take, get_or, slice_get, slice_set, slice_index, get_or-set_same, get_or-set_other}
use Rattle.std.proofs.lemmas.Bool.{eq-eqb}
use Rattle.std.proofs.lemmas.List.{take_all}
use Rattle.std.proofs.lemmas.Option.{same_Some, slice_get_within, slice_get-get_or}
use Rattle.std.specs.List.{AllByRecursion}
use Rattle.mb_edge.specs.declared.crossings.Crossing.{Crossing}
use Rattle.mb_jobs.specs.declared.jobs.JobCall.{JobCall}
use Rattle.mb_kinds.specs.declared.calls.Call.{Call}
use Rattle.mb_kinds.specs.declared.entries.Entry.{Entry}
use Rattle.mb_kinds.specs.declared.entries.Flight.{Flight}
use Rattle.mb_run.specs.Drives.{HasEachMoment, IsComplete}
use Rattle.mb_run.specs.Orders.{AreCounted, AreRunOut, AnswersGrow, ReachesCount, done_at, done_by}
use Rattle.mb_run.specs.Served.{IsAtBy, IsBalanced, AllUnderWay, calls_in, calls_of}
use Rattle.mb_run.specs.Sights.{IsOrderlyInSight, Sight}
use Rattle.mb_run.specs.declared.runner.Runner.{Runner}
use Rattle.mb_run.proofs.Counting.{same_or_not}
use Rattle.mb_run.proofs.Everybody.{own_calls}
use Rattle.mb_run.proofs.InOrder.{as_one, counts_more, entered_underway, once_underway, runner_at}
use Rattle.mb_run.proofs.Lists.{neq}

-- ---- how many calls of a caller stand among the first ones of a job

cons_few : (made : JobCall) (calls : List JobCall) (caller : ℕ) → (length (calls_of (made ∷ calls) caller) ≤ length (calls_of calls caller) + 1) × (length (calls_of calls caller) ≤ length (calls_of (made ∷ calls) caller))
cons_few made calls caller = elim (nat_eq made.caller caller) as (λ b. (length (map (λ (m : JobCall). m.call) (cond b (made ∷ filter (λ (m : JobCall). nat_eq m.caller caller) calls) (filter (λ (m : JobCall). nat_eq m.caller caller) calls))) ≤ length (calls_of calls caller) + 1)
    × (length (calls_of calls caller) ≤ length (map (λ (m : JobCall). m.call) (cond b (made ∷ filter (λ (m : JobCall). nat_eq m.caller caller) calls) (filter (λ (m : JobCall). nat_eq m.caller caller) calls))))) [
      | true ↦ (omega arith, omega arith)
      | false ↦ (omega arith, omega arith)
    ]

pub calls_few : (calls : List JobCall) (caller : ℕ) → length (calls_of calls caller) ≤ length calls
calls_few [] caller = omega arith
calls_few (made ∷ calls) caller = let one = (cons_few made calls caller).0 in let rest = calls_few calls caller in omega (arith, one, rest)

pub take_few : (calls : List JobCall) (index caller : ℕ) → length (calls_of (take index calls) caller) ≤ length (calls_of calls caller)
take_few calls zero caller = omega arith
take_few [] (suc index) caller = omega arith
take_few (made ∷ calls) (suc index) caller = let rest = take_few calls index caller in
    elim (nat_eq made.caller caller) as (λ b. length (map (λ (m : JobCall). m.call) (cond b (made ∷ filter (λ (m : JobCall). nat_eq m.caller caller) (take index calls)) (filter (λ (m : JobCall). nat_eq m.caller caller) (take index calls))))
    ≤ length (map (λ (m : JobCall). m.call) (cond b (made ∷ filter (λ (m : JobCall). nat_eq m.caller caller) calls) (filter (λ (m : JobCall). nat_eq m.caller caller) calls)))) [
      | true ↦ omega (arith, rest)
      | false ↦ omega (arith, rest)
    ]

-- ---- one call of the job after another

module _ (calls : List JobCall) (index : ℕ) (made : JobCall) (here : slice_get calls index ≡ Some made) where
  within : index < length calls
  within = slice_get_within calls index made here

  more : (caller : ℕ) → length (calls_of (take (index + 1) calls) caller) ≡ length (calls_of (take index calls) caller) + as_one (nat_eq made.caller caller)
  more caller = counts_more calls index caller made within (same_Some made (get_or calls index made) (sym here ∙ slice_get-get_or calls index made within))

  mine : length (calls_of (take (index + 1) calls) made.caller) ≡ length (calls_of (take index calls) made.caller) + 1
  mine = more made.caller ∙ ap (λ b. length (calls_of (take index calls) made.caller) + as_one b) (eq-eqb made.caller made.caller refl)

  theirs : (caller : ℕ) → caller ≢ made.caller → length (calls_of (take (index + 1) calls) caller) ≡ length (calls_of (take index calls) caller)
  theirs caller apart = more caller ∙ ap (λ b. length (calls_of (take index calls) caller) + as_one b) (neq made.caller caller (λ same. apart (sym same))) ∙ add-zero (length (calls_of (take index calls) caller))

  pub count_fits : (count : ℕ) → count ≡ length (calls_of (take index calls) made.caller) → length calls < 4294967290 → count + 1 < 4294967296
  count_fits count is small = let few = take_few calls index made.caller in let all = calls_few calls made.caller in omega (arith, is, few, all, small)

  pub counted_next : (passed : List ℕ) (count : ℕ) → length passed ≡ 8 → made.caller < 8 → count ≡ slice_index passed made.caller + 1 → AreCounted calls passed index → AreCounted calls (slice_set passed made.caller count) (index + 1)
  counted_next passed count eight low is counted caller few = elim (same_or_not caller made.caller) [
    | inl same ↦ (let there : made.caller < length passed = omega (arith, low, eight) in
        ap (slice_index (slice_set passed made.caller count)) same ∙ get_or-set_same passed made.caller count 0 there ∙ is ∙ ap (λ n. n + 1) (counted made.caller low) ∙ sym mine ∙ ap (λ c. length (calls_of (take (index + 1) calls) c)) (sym same))
    | inr apart ↦ get_or-set_other passed made.caller caller count 0 apart ∙ counted caller few ∙ sym (theirs caller apart)
  ]

  out_next : (old new : List Runner) → AreRunOut calls old index → AnswersGrow old new → length new ≡ length old → length (calls_of (take (index + 1) calls) made.caller) ≤ done_at new made.caller → AreRunOut calls new (index + 1)
  out_next old new out grows size enough caller low = elim (same_or_not caller made.caller) [
    | inl same ↦ subst (λ c. length (calls_of (take (index + 1) calls) c) ≤ done_at new c) (sym same) enough
    | inr apart ↦ (let below : caller < length old = omega (arith, low, size) in omega (arith, theirs caller apart, out caller below, grows caller))
  ]

  pub out_reached : (old new : List Runner) (count : ℕ) → made.caller < length old → AnswersGrow old new → length new ≡ length old → count ≡ length (calls_of (take index calls) made.caller) + 1 → ReachesCount calls made.caller count old new
      → AreRunOut calls old index → AreRunOut calls new (index + 1)
  out_reached old new count low grows size is reached out = out_next old new out grows size (elim reached [
    | inl done ↦ omega (arith, is, done, mine)
    | inr answered ↦ elim answered [
      | inl more ↦ (let was = out made.caller low in omega (arith, was, more, mine))
      | inr all ↦ (let few = take_few calls (index + 1) made.caller in omega (arith, few, all))
    ]
  ])

pub out_first : (calls : List JobCall) (runners : List Runner) → AreRunOut calls runners 0
out_first calls runners caller low = omega arith

-- ---- every call is answered

free_by : (list made : List Call) (done begun : ℕ) (flight : Option Flight) → length list ≤ done → IsAtBy list made done begun flight → flight ≡ None
free_by list made done begun None past at = refl
free_by list made done begun (Some flight) past at = let low = slice_get_within list done flight.call at.2 in absurd (omega (arith, low, past))

pub complete : (calls : List JobCall) (test : Option (Crossing → Bool)) (sight : Sight) (runners : List Runner) → AllUnderWay calls test sight runners → IsBalanced sight → AreRunOut calls runners (length calls) → IsComplete calls (length runners) test sight
complete calls test sight runners underway even out =
    let past : (caller : ℕ) (low : caller < length runners) → length (calls_of calls caller) ≤ (runner_at runners caller low).0.done =
    λ caller low. (let is = ap done_by (runner_at runners caller low).1 in let all = ap (λ ms. length (calls_of ms caller)) (take_all (length calls) calls (omega arith)) in
    let enough = out caller low in omega (arith, is, all, enough)) in
    let free : (caller : ℕ) → caller < length runners → (sight.seats caller).flight ≡ None =
    λ caller low. (let served = underway.served caller (runner_at runners caller low).0 (runner_at runners caller low).1 in
    free_by (calls_of calls caller) (calls_in sight.history caller) (runner_at runners caller low).0.done (sight.seats caller).begun (sight.seats caller).flight (past caller low) served.calls) in
    record {
      free = free;
      own_calls = λ caller low. own_calls calls test sight runners caller (runner_at runners caller low).0 underway (runner_at runners caller low).1 (past caller low);
      begun = (let none : sight.open_calls ≡ 0 = underway.right.open_calls (λ caller few. (let low : caller < length runners = omega (arith, few, underway.callers) in free caller low)) in
          omega (arith, even, none));
      sound = underway.sound;
      once = once_underway calls test sight runners underway;
      entered = entered_underway calls test sight runners underway;
    }

pub each_moment : (sight : Sight) → IsOrderlyInSight sight → sight.begun ≡ length sight.history → HasEachMoment sight.config.start sight.history
each_moment sight right begun = record {
  above = right.above;
  below = subst (λ n. AllByRecursion (λ (entry : Entry). entry.moment ≤ sight.config.start + n) sight.history) begun right.below;
  apart = right.apart;
}
