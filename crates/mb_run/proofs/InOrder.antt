-- A job in list order, call after call.
use Rattle.std.proofs.Common.{◌≡◌, List, [], ◌∷◌, ◌++◌, ℕ, zero, suc, ◌+◌, ◌<◌, ◌≤◌, Bool, true, false, cond, nat_eq, length, take, filter, inl, inr, refl, ap, sym, subst, ◌∙◌, arith, Option, None, Some, slice_get, slice_set, get_or, length-append, add-zero}
use Rattle.std.proofs.lemmas.Bool.{eq-eqb}
use Rattle.std.proofs.lemmas.List.{length-map, take_all, take_more}
use Rattle.std.proofs.lemmas.List.Elements.{filter-append}
use Rattle.std.proofs.lemmas.Option.{same_Some, slice_get_past, slice_get_within, slice_get-get_or}
use Rattle.std.specs.List.{AllByRecursion}
use Rattle.mb_edge.specs.declared.crossings.Crossing.{Crossing}
use Rattle.mb_kinds.specs.declared.entries.Flight.{Flight}
use Rattle.mb_run.proofs.Listing.{listed_next}
use Rattle.mb_kinds.specs.declared.entries.Entry.{Entry}
use Rattle.std.specs.List.{AllByRecursion}
use Rattle.mb_run.specs.Entering.{AreTakenEntering, HasEnteredPast}
use Rattle.mb_run.specs.Runs.{IsStruckOnceIfPlain, TakesWhereItEntered}
use Rattle.mb_run.specs.Served.{AllUnderWay, AreStruckOnce, EntriesAreCalls, IsServedSoFar, HasRun, InLine, IsAfter, IsFloorOf, IsPastOnce, IsRunInOrder, LineBy, MayStep, calls_of}
use Rattle.mb_run.specs.Sights.{IsOrderlyInSight, Limits, SightSeat, Sight}
use Rattle.mb_jobs.specs.declared.jobs.JobCall.{JobCall}
use Rattle.mb_run.specs.declared.runner.Runner.{Runner}
use Rattle.mb_run.proofs.Everybody.{find_here, got, may_of, own_calls, put_get, put_underway}
use Rattle.mb_run.proofs.Counting.{same_or_not}
use Rattle.mb_run.proofs.Lists.{all_map, neq}
use Rattle.mb_run.proofs.Once.{each_caller}

abbrev pub as_one : Bool → ℕ
as_one b = cond b 1 0

no_made : (made : JobCall) → None ≡ Some made → ⊥
no_made made same = cc

pub counts_more : (calls : List JobCall) (index caller : ℕ) (made : JobCall) → index < length calls → made ≡ get_or calls index made
    → length (calls_of (take (index + 1) calls) caller) ≡ length (calls_of (take index calls) caller) + as_one (nat_eq made.caller caller)
counts_more calls index caller made low is =
    let cut : take (index + 1) calls ≡ take index calls ++ made ∷ [] = take_more calls index made low ∙ ap (λ (m : JobCall). take index calls ++ m ∷ []) (sym is) in
    let split : filter (λ (m : JobCall). nat_eq m.caller caller) (take (index + 1) calls) ≡ filter (λ (m : JobCall). nat_eq m.caller caller) (take index calls) ++ filter (λ (m : JobCall). nat_eq m.caller caller) (made ∷ []) =
    ap (filter (λ (m : JobCall). nat_eq m.caller caller)) cut ∙ filter-append (λ (m : JobCall). nat_eq m.caller caller) (take index calls) (made ∷ []) in
    let last : length (filter (λ (m : JobCall). nat_eq m.caller caller) (made ∷ [])) ≡ as_one (nat_eq made.caller caller) =
    elim (nat_eq made.caller caller) as (λ b. length (cond b (made ∷ []) []) ≡ as_one b) [ true ↦ refl | false ↦ refl ] in
    length-map (filter (λ (m : JobCall). nat_eq m.caller caller) (take (index + 1) calls)) (λ (m : JobCall). m.call) ∙ ap length split
    ∙ length-append (filter (λ (m : JobCall). nat_eq m.caller caller) (take index calls)) (filter (λ (m : JobCall). nat_eq m.caller caller) (made ∷ []))
    ∙ ap (λ n. n + length (filter (λ (m : JobCall). nat_eq m.caller caller) (made ∷ []))) (sym (length-map (filter (λ (m : JobCall). nat_eq m.caller caller) (take index calls)) (λ (m : JobCall). m.call)))
    ∙ ap (λ n. length (calls_of (take index calls) caller) + n) last

never : (flight : Flight) → None ≡ Some flight → ⊥
never flight same = cc

pub all_callers : (calls : List JobCall) (n index : ℕ) (made : JobCall) → AllByRecursion (λ (m : JobCall). m.caller < n) calls → slice_get calls index ≡ Some made → made.caller < n
all_callers [] n index made all here = absurd (no_made made (sym (slice_get_past [] index (omega arith)) ∙ here))
all_callers (first ∷ calls) n zero made all here = subst (λ (m : JobCall). m.caller < n) (same_Some first made here) all.0
all_callers (first ∷ calls) n (suc index) made all here = all_callers calls n index made all.1 here

module _ (calls : List JobCall) (test : Option (Crossing → Bool)) (old : Sight) (runners : List Runner) (index : ℕ) (after : IsAfter calls test old runners index) (made : JobCall) (here : slice_get calls index ≡ Some made) (d : Runner) (low : made.caller < length runners) where
  it : slice_get runners made.caller ≡ Some (get_or runners made.caller d)
  it = got runners made.caller d low

  pub order_may : MayStep calls test old (get_or runners made.caller d) made.call
  order_may = may_of calls test old runners made.caller (get_or runners made.caller d) made.call after.underway it
      (ap (slice_get (calls_of calls made.caller)) (after.done made.caller (get_or runners made.caller d) it) ∙ find_here calls index made.caller made here refl)

  free_floor : (floor : Option ℕ) → old.floor ≡ floor → floor ≡ None
  free_floor None is = refl
  free_floor (Some holder) is = let held = after.underway.right.floor holder is in absurd (never held.0 (sym (after.free holder held.2) ∙ held.1))

  pub order_mine : IsFloorOf (get_or runners made.caller d).crossings.caller old.floor
  order_mine = inl (free_floor old.floor refl)

  own : (get_or runners made.caller d).crossings.caller ≡ made.caller
  own = (after.underway.served made.caller (get_or runners made.caller d) it).caller_is

  pub order_after : (new : Sight) (now : Runner) → HasRun calls test old new (get_or runners made.caller d) now → IsOrderlyInSight new → IsAfter calls test new (slice_set runners made.caller now) (index + 1)
  order_after new now ran right =
      let within : index < length calls = slice_get_within calls index made here in
      let is : made ≡ get_or calls index made = same_Some made (get_or calls index made) (sym here ∙ slice_get-get_or calls index made within) in
      let limit : new.config.callers ≡ old.config.callers = ap (λ (l : Limits). l.callers) ran.nears.acts.config in
      let freed : (new.seats made.caller).flight ≡ None = ap (λ n. (new.seats n).flight) (sym own) ∙ ran.free in
      let inside : made.caller < old.config.callers = omega (arith, low, after.underway.callers) in
      record {
        underway = put_underway calls test old new runners made.caller d now after.underway low ran.nears right;
        free = λ caller few. elim (same_or_not caller made.caller) [
          | inl same ↦ ap (λ n. (new.seats n).flight) same ∙ freed
          | inr apart ↦ (let less : caller < old.config.callers = omega (arith, few, limit) in
              ap (λ (s : SightSeat). s.flight) (ran.nears.acts.seats caller (λ same. apart (same ∙ own))) ∙ after.free caller less)
        ];
        listed = listed_next calls index made old.history new.history ran.nears.acts.entries (calls_of calls made.caller) (get_or runners made.caller d).done now.done (old.seats made.caller).begun (new.seats made.caller).begun (old.seats made.caller).flight (new.seats made.caller).flight here within
            after.listed ran.nears.acts.grown (subst (λ n. AllByRecursion (λ (entry : Entry). entry.caller ≡ n) ran.nears.acts.entries) own ran.nears.acts.theirs) (subst (λ n. slice_get (calls_of calls n) (get_or runners made.caller d).done ≡ Some made.call) own order_may.next) ran.done
            (after.free made.caller inside) (after.underway.served made.caller (get_or runners made.caller d) it).calls freed (subst (λ n. IsServedSoFar (calls_of calls n) new n now) own ran.nears.served).calls;
        lined = (let was : InLine made.caller old = subst (LineBy old.config.start old.history old.begun) (sym (after.free made.caller inside)) after.lined in
            let line : InLine made.caller new = subst (λ n. InLine n new) own (ran.nears.lined (subst (λ n. InLine n old) (sym own) was)) in
            subst (LineBy new.config.start new.history new.begun) freed line);
        done = λ caller runner found. (let more = counts_more calls index caller made within is in elim (put_get runners made.caller caller now runner low found) [
          | inl mine ↦ (let one : as_one (nat_eq made.caller caller) ≡ 1 = ap as_one (eq-eqb made.caller caller (sym mine.0)) in
              let was : (get_or runners made.caller d).done ≡ length (calls_of (take index calls) caller) = after.done made.caller (get_or runners made.caller d) it ∙ ap (λ n. length (calls_of (take index calls) n)) (sym mine.0) in
              ap (λ (r : Runner). r.done) mine.1 ∙ ran.done ∙ ap (λ n. n + 1) was ∙ sym (more ∙ ap (λ n. length (calls_of (take index calls) caller) + n) one))
          | inr theirs ↦ (let none : as_one (nat_eq made.caller caller) ≡ 0 = ap as_one (neq made.caller caller (λ same. theirs.0 (sym same))) in
              after.done caller runner theirs.1 ∙ sym (more ∙ ap (λ n. length (calls_of (take index calls) caller) + n) none ∙ add-zero (length (calls_of (take index calls) caller))))
        ]);
      }

pub runner_at : (runners : List Runner) (place : ℕ) → place < length runners → (runner : Runner) × (slice_get runners place ≡ Some runner)
runner_at [] place low = absurd (omega arith)
runner_at (first ∷ runners) zero low = (first, refl)
runner_at (first ∷ runners) (suc place) low = runner_at runners place (omega arith)

-- of everybody's calls, with plain replies, each was struck once at most
pub once_underway : (calls : List JobCall) (test : Option (Crossing → Bool)) (sight : Sight) (runners : List Runner) → AllUnderWay calls test sight runners → AreStruckOnce (length runners) sight.history sight.records
once_underway calls test sight runners underway = each_caller (IsStruckOnceIfPlain sight.records) sight.history (length runners) (λ caller low. (
    let there = runner_at runners caller low in
    let served = underway.served caller there.0 there.1 in
    all_map (IsPastOnce sight.records there.0.crossings there.0.answered) (λ (entry : Entry). entry.caller ≡ caller → IsStruckOnceIfPlain sight.records entry) sight.history (λ entry is mine. (is (mine ∙ sym served.caller_is)).1) served.past))

-- and each took its faults where it entered
pub entered_underway : (calls : List JobCall) (test : Option (Crossing → Bool)) (sight : Sight) (runners : List Runner) → AllUnderWay calls test sight runners → AreTakenEntering test (length runners) sight.history sight.records
entered_underway calls test sight runners underway = each_caller (TakesWhereItEntered test sight.records) sight.history (length runners) (λ caller low. (
    let there = runner_at runners caller low in
    let served = underway.served caller there.0 there.1 in
    let entered = underway.entered caller there.0 there.1 in
    all_map (HasEnteredPast test sight.records there.0.crossings there.0.answered) (λ (entry : Entry). entry.caller ≡ caller → TakesWhereItEntered test sight.records entry) sight.history (λ entry is mine. (is (mine ∙ sym served.caller_is)).1) entered.past))

pub order_over : (calls : List JobCall) (test : Option (Crossing → Bool)) (sight : Sight) (runners : List Runner) (index : ℕ) → length calls ≤ index → IsAfter calls test sight runners index → IsRunInOrder calls (length runners) test sight
order_over calls test sight runners index past after = record {
  free = λ caller low. (let few : caller < sight.config.callers = omega (arith, low, after.underway.callers) in after.free caller few);
  own_calls = λ caller low. (
      let there = runner_at runners caller low in
      let done : there.0.done ≡ length (calls_of (take index calls) caller) = after.done caller there.0 there.1 in
      let all : length (calls_of (take index calls) caller) ≡ length (calls_of calls caller) = ap (λ ms. length (calls_of ms caller)) (take_all index calls past) in
      own_calls calls test sight runners caller there.0 after.underway there.1 (omega (arith, done, all)));
  listed = subst (EntriesAreCalls sight.history) (take_all index calls past) after.listed;
  moments = after.lined.1;
  begun = after.lined.0;
  sound = after.underway.sound;
  once = once_underway calls test sight runners after.underway;
}
