-- All callers of a job under way.
use Rattle.std.proofs.Common.{◌≡◌, ◌≢◌, ◌⊎◌, List, [], ◌∷◌, ℕ, ◌+◌, ◌<◌, ◌≤◌, Bool, true, false, cond, nat_eq, length, take, map, filter, zero, suc, inl, inr, ap, sym, subst, ◌∙◌, arith, Option, None, Some, slice_get, slice_set, get_or, get_or-set_same, get_or-set_other, length-append}
use Rattle.std.proofs.Math.ListN.{length-set}
use Rattle.std.proofs.lemmas.Bool.{eq-eqb}
use Rattle.std.proofs.lemmas.List.{take_all}
use Rattle.std.proofs.lemmas.Option.{same_Some, slice_get_within, slice_get-get_or, slice_get_past, get_or_from_slice_get}
use Rattle.mb_edge.specs.declared.crossings.Crossing.{Crossing}
use Rattle.mb_kinds.specs.declared.calls.Call.{Call}
use Rattle.mb_kinds.specs.declared.entries.Flight.{Flight}
use Rattle.mb_run.specs.Entering.{EntersIn}
use Rattle.mb_run.specs.Served.{ActsAlone, AreSixCounts, HasRun, IsAtBy, IsFloorOf, IsServedSoFar, Turns, MayStep, Nears, AllUnderWay, busy, calls_in, calls_of, rank, work}
use Rattle.mb_run.specs.Sights.{IsOrderlyInSight, Limits, Sight, one_if, recovers}
use Rattle.mb_jobs.specs.declared.jobs.JobCall.{JobCall}
use Rattle.mb_core_spec.specs.declared.stages.Stage.TheVariants as stage
use Rattle.mb_run.specs.declared.runner.Runner.{Runner}
use Rattle.mb_run.specs.declared.progress.StepEnd.TheVariants as turn
use Rattle.mb_run.proofs.Counting.{same_or_not}
use Rattle.mb_run.proofs.Lists.{neq}
use Rattle.mb_run.proofs.Rolling.{other_entered, other_served}
use Rattle.mb_run.proofs.Once.{one_most}
use Rattle.mb_run.proofs.Struck.{rank_most}

-- what one caller of the list may do
pub may_of : (calls : List JobCall) (test : Option (Crossing → Bool)) (sight : Sight) (runners : List Runner) (caller : ℕ) (runner : Runner) (call : Call) → AllUnderWay calls test sight runners → slice_get runners caller ≡ Some runner
    → slice_get (calls_of calls caller) runner.done ≡ Some call → MayStep calls test sight runner call
may_of calls test sight runners caller runner call underway here next =
    let served = underway.served caller runner here in
    let low : caller < length runners = slice_get_within runners caller runner here in
    record {
      served = subst (λ n. IsServedSoFar (calls_of calls n) sight n runner) (sym served.caller_is) served;
      sound = underway.sound;
      within = omega (arith, low, served.caller_is, underway.callers);
      most = underway.most runner.crossings.caller;
      small = underway.small runner.crossings.caller;
      next = subst (λ n. slice_get (calls_of calls n) runner.done ≡ Some call) (sym served.caller_is) next;
      counts = underway.counts caller runner here;
      right = underway.right;
    }

never_some : (flight : Flight) → None ≡ Some flight → ⊥
never_some flight same = cc

some_made : (made : JobCall) → None ≡ Some made → ⊥
some_made made same = cc

pub some_call : (call : Call) → None ≡ Some call → ⊥
some_call call same = cc

some_same : (one other : Runner) → Some one ≡ Some other → one ≡ other
some_same one other same = same_Some one other same

own_by : (list made : List Call) (done begun : ℕ) (flight : Option Flight) → length list ≤ done → IsAtBy list made done begun flight → made ≡ list
own_by list made done begun None past at = at.1 ∙ take_all done list past
own_by list made done begun (Some flight) past at = at.3 ∙ take_all (done + one_if flight.answered) list (omega arith)

not_held : (holder : ℕ) (sight : Sight) → IsOrderlyInSight sight → (sight.seats holder).flight ≡ None → sight.floor ≡ Some holder → ⊥
not_held holder sight right free held = let found = right.floor holder held in never_some found.0 (sym free ∙ found.1)

-- the runner of a caller, after one was put in its place
pub put_get : (runners : List Runner) (caller other : ℕ) (now found : Runner) → caller < length runners → slice_get (slice_set runners caller now) other ≡ Some found
    → ((other ≡ caller) × (found ≡ now)) ⊎ ((other ≢ caller) × (slice_get runners other ≡ Some found))
put_get runners caller other now found low here =
    let within : other < length (slice_set runners caller now) = slice_get_within (slice_set runners caller now) other found here in
    let size : length (slice_set runners caller now) ≡ length runners = length-set runners caller now in
    let there : other < length runners = omega arith in
    let is : get_or (slice_set runners caller now) other found ≡ found = get_or_from_slice_get (slice_set runners caller now) other found found here in
    elim (same_or_not other caller) [
      | inl same ↦ inl (same, sym is ∙ ap (λ n. get_or (slice_set runners caller now) n found) same ∙ get_or-set_same runners caller now found low)
      | inr apart ↦ inr (apart, slice_get-get_or runners other found there ∙ ap Some (sym (get_or-set_other runners caller other now found apart) ∙ is))
    ]

-- after steps of one caller
pub underway_on : (calls : List JobCall) (test : Option (Crossing → Bool)) (old new : Sight) (runners : List Runner) (caller : ℕ) (before now : Runner) → AllUnderWay calls test old runners → slice_get runners caller ≡ Some before → before.crossings.caller ≡ caller
    → Nears calls test old new before now → IsOrderlyInSight new → AllUnderWay calls test new (slice_set runners caller now)
underway_on calls test old new runners caller before now underway here own nears right =
    let low : caller < length runners = slice_get_within runners caller before here in
    record {
      served = λ other found is. elim (put_get runners caller other now found low is) [
        | inl mine ↦ subst (λ (r : Runner). IsServedSoFar (calls_of calls other) new other r) (sym mine.1) (subst (λ n. IsServedSoFar (calls_of calls n) new n now) (own ∙ sym mine.0) nears.served)
        | inr theirs ↦ other_served (calls_of calls other) caller other old new found theirs.0 (subst (λ n. ActsAlone n old new) own nears.acts) (underway.served other found theirs.1)
      ];
      counts = λ other found is. elim (put_get runners caller other now found low is) [
        | inl mine ↦ subst (λ (r : Runner). AreSixCounts r.crossings) (sym mine.1) nears.counts
        | inr theirs ↦ underway.counts other found theirs.1
      ];
      entered = λ other found is. elim (put_get runners caller other now found low is) [
        | inl mine ↦ subst (λ (r : Runner). EntersIn test new r r.at) (sym mine.1) (nears.entered (underway.entered caller before here))
        | inr theirs ↦ other_entered test caller other old new found (underway.served other found theirs.1).caller_is theirs.0 (subst (λ n. ActsAlone n old new) own nears.acts) (underway.entered other found theirs.1)
      ];
      sound = nears.sound;
      callers = length-set runners caller now ∙ underway.callers ∙ ap (λ (l : Limits). l.callers) (sym nears.acts.config);
      most = λ other. rw nears.acts.config (underway.most other);
      small = underway.small;
      right = right;
    }

-- each caller's calls, once its list is done
pub own_calls : (calls : List JobCall) (test : Option (Crossing → Bool)) (sight : Sight) (runners : List Runner) (caller : ℕ) (runner : Runner) → AllUnderWay calls test sight runners → slice_get runners caller ≡ Some runner
    → length (calls_of calls caller) ≤ runner.done → calls_in sight.history caller ≡ calls_of calls caller
own_calls calls test sight runners caller runner underway here past =
    own_by (calls_of calls caller) (calls_in sight.history caller) runner.done (sight.seats caller).begun (sight.seats caller).flight past (underway.served caller runner here).calls

-- once the holder of the floor has run, a caller that waited for it has less to do
pub holder_ran : (calls : List JobCall) (test : Option (Crossing → Bool)) (old new : Sight) (holder_before holder_now waits : Runner) (caller : ℕ) → HasRun calls test old new holder_before holder_now → IsOrderlyInSight new
    → old.floor ≡ Some holder_before.crossings.caller → holder_before.crossings.caller ≢ caller → old.stage ≡ stage.Running → work new caller waits < work old caller waits
holder_ran calls test old new holder_before holder_now waits caller ran right held apart running =
    let acts = ran.nears.acts in
    let holder = holder_before.crossings.caller in
    let limit : new.config.limit ≡ old.config.limit = ap (λ (l : Limits). l.limit) acts.config in
    let more : length new.records ≡ length old.records + length acts.more = ap length acts.records ∙ length-append old.records acts.more in
    let was : busy caller old.floor ≡ 1 = ap (busy caller) held ∙ ap (λ b. cond b 0 1) (neq holder caller apart) in
    let free : new.floor ≡ None = elim acts.floor [ inl none ↦ none | inr rest ↦ absurd (not_held holder new right ran.free (elim rest [ inl own ↦ own | inr same ↦ same ∙ held ])) ] in
    let none : busy caller new.floor ≡ 0 = ap (busy caller) free in
    elim (same_or_not (length new.records) (length old.records)) [
      | inl same ↦ (let present = acts.calm same in
          let calm : one_if (recovers new.stage) ≡ 0 = ap (λ s. one_if (recovers s)) (acts.runs present running) in
          let calmed : one_if (recovers old.stage) ≡ 0 = ap (λ s. one_if (recovers s)) running in
          let ranks : rank new.incarnation (new.stales caller) waits.pages waits.at ≡ rank old.incarnation (old.stales caller) waits.pages waits.at =
          ap (λ n. rank n (new.stales caller) waits.pages waits.at) present ∙ ap (λ n. rank old.incarnation n waits.pages waits.at) (acts.stales present running caller (λ is. apart (sym is))) in
          omega (arith, limit, same, was, none, calm, calmed, ranks))
      | inr grew ↦ (omega (arith, limit, more, grew, right.records, none, one_most (recovers new.stage), rank_most new.incarnation (new.stales caller) waits.pages waits.at))
    ]

-- how much is left of a caller's call
abbrev pub work_by : Sight → ℕ → Option Runner → ℕ
work_by sight caller None = 0
work_by sight caller (Some runner) = work sight caller runner

abbrev pub work_at : Sight → ℕ → List Runner → ℕ
work_at sight caller runners = work_by sight caller (slice_get runners caller)

pub work_is : (sight : Sight) (caller : ℕ) (runners : List Runner) (runner : Runner) → slice_get runners caller ≡ Some runner → work_at sight caller runners ≡ work sight caller runner
work_is sight caller runners runner here = ap (work_by sight caller) here

pub put_here : (runners : List Runner) (caller : ℕ) (now : Runner) → caller < length runners → slice_get (slice_set runners caller now) caller ≡ Some now
put_here runners caller now low =
    let size : length (slice_set runners caller now) ≡ length runners = length-set runners caller now in
    let within : caller < length (slice_set runners caller now) = omega arith in
    slice_get-get_or (slice_set runners caller now) caller now within ∙ ap Some (get_or-set_same runners caller now now low)

pub put_there : (runners : List Runner) (caller other : ℕ) (now found : Runner) → other ≢ caller → slice_get runners other ≡ Some found → slice_get (slice_set runners caller now) other ≡ Some found
put_there runners caller other now found apart here =
    let there : other < length runners = slice_get_within runners other found here in
    let size : length (slice_set runners caller now) ≡ length runners = length-set runners caller now in
    let within : other < length (slice_set runners caller now) = omega arith in
    slice_get-get_or (slice_set runners caller now) other found within ∙ ap Some (get_or-set_other runners caller other now found apart ∙ get_or_from_slice_get runners other found found here)

-- ---- one turn of a caller of the list

pub got : (runners : List Runner) (caller : ℕ) (d : Runner) → caller < length runners → slice_get runners caller ≡ Some (get_or runners caller d)
got runners caller d low = slice_get-get_or runners caller d low

module _ (calls : List JobCall) (test : Option (Crossing → Bool)) (old new : Sight) (runners : List Runner) (caller : ℕ) (d now : Runner) (underway : AllUnderWay calls test old runners) (low : caller < length runners) where
  own_caller : (get_or runners caller d).crossings.caller ≡ caller
  own_caller = (underway.served caller (get_or runners caller d) (got runners caller d low)).caller_is

  pub put_underway : Nears calls test old new (get_or runners caller d) now → IsOrderlyInSight new → AllUnderWay calls test new (slice_set runners caller now)
  put_underway nears right = underway_on calls test old new runners caller (get_or runners caller d) now underway (got runners caller d low) own_caller nears right

  pub turned_less : Turns calls test old new (get_or runners caller d) now turn.Again → work_at new caller (slice_set runners caller now) < work_at old caller runners
  turned_less turns =
      let was = work_is old caller runners (get_or runners caller d) (got runners caller d low) in
      let is = work_is new caller (slice_set runners caller now) now (put_here runners caller now low) in
      let less : work new caller now < work old caller (get_or runners caller d) = subst (λ n. work new n now < work old n (get_or runners caller d)) own_caller turns.goes.1 in
      omega (arith, was, is, less)

  -- the holder of the floor
  module _ (holder : ℕ) (turns : Turns calls test old new (get_or runners caller d) now (turn.Busy holder)) (right : IsOrderlyInSight new) where
    apart : holder ≢ caller
    apart = λ same. turns.goes.4 (same ∙ sym own_caller)

    pub mid : AllUnderWay calls test new (slice_set runners caller now)
    mid = put_underway turns.nears right

    pub holder_low : holder < length (slice_set runners caller now)
    holder_low = let held = right.floor holder turns.goes.3 in omega (arith, mid.callers, held.2)

    -- it has a call
    pub holder_has : (e : Runner) → slice_get (calls_of calls holder) (get_or (slice_set runners caller now) holder e).done ≡ None → ⊥
    holder_has e none =
        let held = right.floor holder turns.goes.3 in
        let served = mid.served holder (get_or (slice_set runners caller now) holder e) (got (slice_set runners caller now) holder e holder_low) in
        let at = subst (IsAtBy (calls_of calls holder) (calls_in new.history holder) (get_or (slice_set runners caller now) holder e).done (new.seats holder).begun) held.1 served.calls in
        some_call held.0.call (sym none ∙ at.2)

    pub holder_may : (x e : Runner) (call : Call) → slice_get (calls_of calls holder) (get_or (slice_set runners caller now) holder x).done ≡ Some call → MayStep calls test new (get_or (slice_set runners caller now) holder e) call
    holder_may x e call next =
        let same : get_or (slice_set runners caller now) holder x ≡ get_or (slice_set runners caller now) holder e =
        some_same (get_or (slice_set runners caller now) holder x) (get_or (slice_set runners caller now) holder e) (sym (got (slice_set runners caller now) holder x holder_low) ∙ got (slice_set runners caller now) holder e holder_low) in
        may_of calls test new (slice_set runners caller now) holder (get_or (slice_set runners caller now) holder e) call mid (got (slice_set runners caller now) holder e holder_low)
        (subst (λ (r : Runner). slice_get (calls_of calls holder) r.done ≡ Some call) same next)

    holder_is : (e : Runner) → (get_or (slice_set runners caller now) holder e).crossings.caller ≡ holder
    holder_is e = (mid.served holder (get_or (slice_set runners caller now) holder e) (got (slice_set runners caller now) holder e holder_low)).caller_is

    pub holder_mine : (e : Runner) → IsFloorOf (get_or (slice_set runners caller now) holder e).crossings.caller new.floor
    holder_mine e = inr (turns.goes.3 ∙ ap Some (sym (holder_is e)))

    pub held_less : (last : Sight) (e after : Runner) → HasRun calls test new last (get_or (slice_set runners caller now) holder e) after → IsOrderlyInSight last
        → work_at last caller (slice_set (slice_set runners caller now) holder after) < work_at old caller runners
    held_less last e after ran ordered =
        let was = work_is old caller runners (get_or runners caller d) (got runners caller d low) in
        let there : slice_get (slice_set (slice_set runners caller now) holder after) caller ≡ Some now = put_there (slice_set runners caller now) holder caller after now (λ same. apart (sym same)) (put_here runners caller now low) in
        let is = work_is last caller (slice_set (slice_set runners caller now) holder after) now there in
        let less = holder_ran calls test new last (get_or (slice_set runners caller now) holder e) after now caller ran ordered (turns.goes.3 ∙ ap Some (sym (holder_is e))) (λ same. apart (sym (holder_is e) ∙ same)) turns.goes.5 in
        let first : work new caller now ≤ work old caller (get_or runners caller d) = subst (λ n. work new n now ≤ work old n (get_or runners caller d)) own_caller turns.goes.1 in
        omega (arith, was, is, less, first)

-- ---- a caller's call by its place

pub find_here : (calls : List JobCall) (index caller : ℕ) (made : JobCall) → slice_get calls index ≡ Some made → made.caller ≡ caller → slice_get (calls_of calls caller) (length (calls_of (take index calls) caller)) ≡ Some made.call
find_here [] index caller made here own = absurd (some_made made (sym (slice_get_past [] index (omega arith)) ∙ here))
find_here (first ∷ calls) zero caller made here own =
    let same : first ≡ made = same_Some first made here in
    rw (eq-eqb first.caller caller (ap (λ (m : JobCall). m.caller) same ∙ own)) (ap (λ (m : JobCall). Some m.call) same)
find_here (first ∷ calls) (suc index) caller made here own = elim (nat_eq first.caller caller) as (λ b. slice_get (map (λ (m : JobCall). m.call) (cond b (first ∷ filter (λ (m : JobCall). nat_eq m.caller caller) calls) (filter (λ (m : JobCall). nat_eq m.caller caller) calls)))
    (length (map (λ (m : JobCall). m.call) (cond b (first ∷ filter (λ (m : JobCall). nat_eq m.caller caller) (take index calls)) (filter (λ (m : JobCall). nat_eq m.caller caller) (take index calls))))) ≡ Some made.call) [
      | true ↦ find_here calls index caller made here own
      | false ↦ find_here calls index caller made here own
    ]
