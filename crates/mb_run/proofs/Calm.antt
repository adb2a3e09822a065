-- An order while no fault comes and no call is given up, character by character.
use Rattle.std.proofs.Common.{◌≡◌, ◌≢◌, ◌⊎◌, List, [], ◌∷◌, ◌++◌, ℕ, zero, suc, ◌+◌, ◌<◌, ◌≤◌, Bool, true, false, cond, not, ◌&&◌, ◌||◌, nat_eq, length, map, filter, take, get_or, refl, inl, inr, ap, sym, subst, ◌∙◌, arith, append_assoc, Option, None, Some, slice_get, slice_set}
use Rattle.std.specs.Char.{is_ascii_uppercase, to_ascii_lowercase}
use Rattle.std.specs.Prelude.{nat_lt}
use Rattle.std.specs.List.{AllByRecursion}
use Rattle.std.proofs.lemmas.Bool.{eq-eqb}
use Rattle.std.proofs.lemmas.Bool.Decides.{nat_tests}
use Rattle.std.proofs.lemmas.List.{append-nil, map-append, take_more}
use Rattle.std.proofs.lemmas.List.Elements.{filter-append}
use Rattle.std.proofs.lemmas.List.Folds.{list_any-append}
use Rattle.std.proofs.lemmas.List.Sums.{sum_by_push}
use Rattle.std.proofs.lemmas.Option.{same_Some, slice_get_past}
use Rattle.mb_cache.specs.declared.answers.Flushed.{Flushed}
use Rattle.mb_cache.specs.declared.answers.Flushed.TheVariants as flushed
use Rattle.mb_core_spec.specs.declared.stages.Stage.TheVariants as stage
use Rattle.mb_core_spec.specs.declared.steps.Step.{Step}
use Rattle.mb_core_spec.specs.declared.steps.Step.TheVariants as step
use Rattle.mb_edge.specs.declared.crossings.Crossing.{Crossing}
use Rattle.mb_jobs.specs.declared.jobs.Caller.{Caller}
use Rattle.mb_jobs.specs.declared.jobs.JobCall.{JobCall}
use Rattle.mb_kinds.specs.declared.calls.Call.{Call}
use Rattle.mb_kinds.specs.declared.faults.Ticket.{Ticket}
use Rattle.mb_run.specs.Calm.{AreAllPlain, CalmlyFrom, WentInside, HoldsNowhere, AreCalm, IsDoneAndIdle, IsInTurn, IsStill, IsTurn, KeepsCalm, StaysInside, StepsCalmly, TurnsCalmly}
use Rattle.mb_run.specs.Drives.{new_runner}
use Rattle.mb_run.specs.Events.{FlushesWith}
use Rattle.mb_run.specs.Letters.{AreLetters, LacksLetter, letters_of}
use Rattle.mb_run.specs.Orders.{HasLetter, IsSealedNow, MovesCall}
use Rattle.mb_run.specs.Pages.{has}
use Rattle.mb_run.specs.Runs.{BeginsWith, EntersFirst, begun_from, caller_of, calm_from, calm_prefix, has_call, has_capital, is_begun, is_calm_next, is_letter_of, is_seal, letter_of, used, with_caller, without_seals}
use Rattle.mb_run.specs.Seals.{TrailGoesOn}
use Rattle.mb_run.specs.Served.{AllUnderWay, calls_of}
use Rattle.mb_run.specs.Sights.{SightSeat, Sight, recovers}
use Rattle.mb_run.specs.declared.runner.Runner.{Runner}
use Rattle.mb_run.proofs.Counting.{same_or_not}
use Rattle.mb_run.proofs.Everybody.{got, put_get, put_here}
use Rattle.mb_run.proofs.Lists.{all_both, neq}
use Rattle.mb_run.proofs.Starting.{all_at, letter_here, letter_or, letter_yes, lettered_at, lower_from, lower_is, one_place}
use Rattle.mb_run.proofs.Waiting.{same_gets}

no_both : true ≡ false → ⊥
no_both same = cc

never_letter : (letter : ℕ) → None ≡ Some letter → ⊥
never_letter letter same = cc

never_call : (call : Call) → None ≡ Some call → ⊥
never_call call same = cc

or_false : (b : Bool) → (b || false) ≡ b
or_false true = refl
or_false false = refl

or_left : (a b : Bool) → (a || b) ≡ false → a ≡ false
or_left true b none = none
or_left false b none = refl

or_right : (a b : Bool) → (a || b) ≡ false → b ≡ false
or_right true b none = absurd (no_both none)
or_right false b none = none

or_not : (a b : Bool) → (a || not b) ≡ true → a ≡ false → b ≡ false
or_not true b either none = absurd (no_both none)
or_not false true either none = absurd (no_both (sym either))
or_not false false either none = refl

both_left : (a b : Bool) → (a && b) ≡ true → a ≡ true
both_left true b both = refl
both_left false b both = both

both_right : (a b : Bool) → (a && b) ≡ true → b ≡ true
both_right true b both = both
both_right false b both = absurd (no_both (sym both))

less_two : (n : ℕ) → nat_lt n 2 ≡ true → n < 2
less_two n less = grind (arith, nat_tests, less)

-- ---- one character more

used_more : (seen : List ℕ) (character letter : ℕ) → used (seen ++ character ∷ []) letter ≡ used seen letter + cond (is_letter_of letter character) 1 0
used_more seen character letter = sum_by_push (λ (c : ℕ). cond (is_letter_of letter c) 1 0) seen character

used_grows : (seen : List ℕ) (character letter : ℕ) → used seen letter ≤ used (seen ++ character ∷ []) letter
used_grows seen character letter = let is = used_more seen character letter in omega (arith, is)

used_here : (seen : List ℕ) (character letter : ℕ) → is_letter_of letter character ≡ true → used (seen ++ character ∷ []) letter ≡ used seen letter + 1
used_here seen character letter is = used_more seen character letter ∙ ap (λ b. used seen letter + cond b 1 0) is

capital_more : (seen : List ℕ) (character letter : ℕ) → has_capital (seen ++ character ∷ []) letter ≡ (has_capital seen letter || nat_eq (character + 32) letter)
capital_more seen character letter = list_any-append (λ (c : ℕ). nat_eq (c + 32) letter) seen (character ∷ []) ∙ ap (λ b. has_capital seen letter || b) (or_false (nat_eq (character + 32) letter))

capital_was : (seen : List ℕ) (character letter : ℕ) → has_capital (seen ++ character ∷ []) letter ≡ false → has_capital seen letter ≡ false
capital_was seen character letter none = or_left (has_capital seen letter) (nat_eq (character + 32) letter) (sym (capital_more seen character letter) ∙ none)

capital_now : (seen : List ℕ) (character letter : ℕ) → has_capital (seen ++ character ∷ []) letter ≡ false → nat_eq (character + 32) letter ≡ false
capital_now seen character letter none = or_right (has_capital seen letter) (nat_eq (character + 32) letter) (sym (capital_more seen character letter) ∙ none)

begun_more : (calls : List JobCall) (letters begun seen : List ℕ) (character : ℕ) → begun_from calls letters begun (seen ++ character ∷ []) ≡ with_caller calls (begun_from calls letters begun seen) (caller_of letters 0 character)
begun_more calls letters begun [] character = refl
begun_more calls letters begun (first ∷ seen) character = begun_more calls letters (with_caller calls begun (caller_of letters 0 first)) seen character

begun_other : (begun : List ℕ) (caller other : ℕ) → other ≢ caller → is_begun (begun ++ caller ∷ []) other ≡ is_begun begun other
begun_other begun caller other apart =
    list_any-append (nat_eq other) begun (caller ∷ []) ∙ ap (λ b. is_begun begun other || (b || false)) (neq other caller apart) ∙ or_false (is_begun begun other)

or_true : (b : Bool) → (b || true) ≡ true
or_true true = refl
or_true false = refl

begun_mine : (begun : List ℕ) (caller : ℕ) → is_begun (begun ++ caller ∷ []) caller ≡ true
begun_mine begun caller =
    list_any-append (nat_eq caller) begun (caller ∷ []) ∙ ap (λ b. is_begun begun caller || (b || false)) (eq-eqb caller caller refl) ∙ or_true (is_begun begun caller)

-- ---- the caller of a character

caller_none : (letters : List ℕ) (place character : ℕ) → ((caller letter : ℕ) → letter_of letters caller ≡ Some letter → is_letter_of letter character ≡ false) → caller_of letters place character ≡ None
caller_none [] place character none = refl
caller_none (first ∷ letters) place character none =
    ap (λ b. cond b (Some place) (caller_of letters (place + 1) character)) (none 0 first refl)
    ∙ caller_none letters (place + 1) character (λ caller letter here. none (suc caller) letter here)

caller_here : (letters : List ℕ) (place caller letter character : ℕ) → letter_of letters caller ≡ Some letter → is_letter_of letter character ≡ true
    → ((other another : ℕ) → letter_of letters other ≡ Some another → is_letter_of another character ≡ true → other ≡ caller) → caller_of letters place character ≡ Some (place + caller)
caller_here [] place caller letter character here is one = absurd (never_letter letter (sym (slice_get_past [] caller (omega arith)) ∙ here))
caller_here (first ∷ letters) place zero letter character here is one =
    ap (λ b. cond b (Some place) (caller_of letters (place + 1) character)) (ap (λ n. is_letter_of n character) (same_Some first letter here) ∙ is) ∙ ap Some (omega arith)
caller_here (first ∷ letters) place (suc caller) letter character here is one =
    by_first (is_letter_of first character) refl (caller_here letters (place + 1) caller letter character here is (λ other another there also. (let same = one (suc other) another there also in omega (arith, same)))) where
      by_first : (b : Bool) → is_letter_of first character ≡ b → caller_of letters (place + 1) character ≡ Some (place + 1 + caller) → cond (is_letter_of first character) (Some place) (caller_of letters (place + 1) character) ≡ Some (place + suc caller)
      by_first true matches rest = absurd (let same = one 0 first refl matches in omega (arith, same))
      by_first false apart rest = ap (λ b. cond b (Some place) (caller_of letters (place + 1) character)) apart ∙ rest ∙ ap Some (omega arith)

-- what a character must be to follow
calm_at : (letters seen : List ℕ) (caller letter character : ℕ) → letter_of letters caller ≡ Some letter → is_letter_of letter character ≡ true → is_calm_next letters seen character ≡ true
    → (nat_lt (used seen letter) 2 && (nat_eq (character + 32) letter || not (has_capital seen letter))) ≡ true
calm_at [] seen caller letter character here is calm = absurd (never_letter letter (sym (slice_get_past [] caller (omega arith)) ∙ here))
calm_at (first ∷ letters) seen zero letter character here is calm =
    let same : first ≡ letter = same_Some first letter here in
    let all = subst (λ n. (cond (is_letter_of n character) (nat_lt (used seen n) 2 && (nat_eq (character + 32) n || not (has_capital seen n))) true && is_calm_next letters seen character) ≡ true) same calm in
    let mine = both_left (cond (is_letter_of letter character) (nat_lt (used seen letter) 2 && (nat_eq (character + 32) letter || not (has_capital seen letter))) true) (is_calm_next letters seen character) all in
    ap (λ b. cond b (nat_lt (used seen letter) 2 && (nat_eq (character + 32) letter || not (has_capital seen letter))) true) (sym is) ∙ mine
calm_at (first ∷ letters) seen (suc caller) letter character here is calm =
    calm_at letters seen caller letter character here is
    (both_right (cond (is_letter_of first character) (nat_lt (used seen first) 2 && (nat_eq (character + 32) first || not (has_capital seen first))) true) (is_calm_next letters seen character) calm)

-- ---- a caller's calls

-- the calls of a caller with the first one of a job
abbrev calls_with : JobCall → List JobCall → ℕ → Bool → List Call
calls_with made calls caller b = map (λ (one : JobCall). one.call) (cond b (made ∷ filter (λ (one : JobCall). nat_eq one.caller caller) calls) (filter (λ (one : JobCall). nat_eq one.caller caller) calls))

some_call : (calls : List JobCall) (caller index : ℕ) (call : Call) → slice_get (calls_of calls caller) index ≡ Some call → has_call calls caller ≡ true
some_call [] caller index call here = absurd (never_call call (sym (slice_get_past [] index (omega arith)) ∙ here))
some_call (made ∷ calls) caller index call here = by_first (nat_eq made.caller caller) refl (some_call calls caller index call) here where
  by_first : (b : Bool) → nat_eq made.caller caller ≡ b → (slice_get (calls_of calls caller) index ≡ Some call → has_call calls caller ≡ true) → slice_get (calls_with made calls caller (nat_eq made.caller caller)) index ≡ Some call
      → (nat_eq made.caller caller || has_call calls caller) ≡ true
  by_first true is rest there = ap (λ b. b || has_call calls caller) is
  by_first false is rest there = ap (λ b. b || has_call calls caller) is ∙ rest (subst (λ b. slice_get (calls_with made calls caller b) index ≡ Some call) is there)

never_none : (call : Call) → Some call ≡ None → ⊥
never_none call same = cc

none_called : (calls : List JobCall) (caller : ℕ) → slice_get (calls_of calls caller) 0 ≡ None → has_call calls caller ≡ false
none_called [] caller none = refl
none_called (made ∷ calls) caller none = by_first (nat_eq made.caller caller) refl (none_called calls caller) none where
  by_first : (b : Bool) → nat_eq made.caller caller ≡ b → (slice_get (calls_of calls caller) 0 ≡ None → has_call calls caller ≡ false) → slice_get (calls_with made calls caller (nat_eq made.caller caller)) 0 ≡ None
      → (nat_eq made.caller caller || has_call calls caller) ≡ false
  by_first true is rest there = absurd (never_none made.call (subst (λ b. slice_get (calls_with made calls caller b) 0 ≡ None) is there))
  by_first false is rest there = ap (λ b. b || has_call calls caller) is ∙ rest (subst (λ b. slice_get (calls_with made calls caller b) 0 ≡ None) is there)

-- ---- the trace

seals_append : (before steps : List Step) → without_seals (before ++ steps) ≡ without_seals before ++ without_seals steps
seals_append before steps = filter-append (λ (one : Step). not (is_seal one)) before steps

-- a caller of whom nothing came
turn_stays : (letters : List ℕ) (calls : List JobCall) (seen : List ℕ) (character : ℕ) (old new : Sight) (caller letter : ℕ) (runner : Runner)
    → is_begun (begun_from calls letters [] (seen ++ character ∷ [])) caller ≡ is_begun (begun_from calls letters [] seen) caller → new.incarnation ≡ old.incarnation → new.seats caller ≡ old.seats caller
    → IsInTurn letters calls seen old caller letter runner → IsInTurn letters calls (seen ++ character ∷ []) new caller letter runner
turn_stays letters calls seen character old new caller letter runner begun incarnation seat turn = record {
  outside = λ none called. (let is = turn.outside (sym begun ∙ none) called in
      record { stands = is.stands; free = ap (λ (s : SightSeat). s.flight) seat ∙ is.free; begun = ap (λ (s : SightSeat). s.begun) seat ∙ is.begun; done = is.done });
  inside = λ there. (let is = turn.inside (sym begun ∙ there) in record { ticket = is.ticket; stands = is.stands; present = is.present ∙ sym incarnation });
  stood = λ there. (let is = turn.stood (sym begun ∙ there) in let grows = used_grows seen character letter in omega (arith, is, grows));
  bare = λ there few none. (let grows = used_grows seen character letter in
      let fewer : used seen letter < 2 = omega (arith, few, grows) in turn.bare (sym begun ∙ there) fewer (capital_was seen character letter none));
}

-- nobody's letter, or one whose caller has no call to step
module _ (letters : List ℕ) (calls : List JobCall) (seen : List ℕ) (character : ℕ) (old new : Sight) (runners : List Runner) (calm : AreCalm letters calls seen old runners) (still : IsStill old new) where
  pub still_calm : begun_from calls letters [] (seen ++ character ∷ []) ≡ begun_from calls letters [] seen → AreCalm letters calls (seen ++ character ∷ []) new runners
  still_calm begun = record {
    runs = still.stage ∙ calm.runs;
    tickets = calm.tickets;
    trail = still.trail ∙ calm.trail;
    callers = calm.callers ∙ sym begun;
    firsts = calm.firsts;
    each = λ caller letter runner has here. turn_stays letters calls seen character old new caller letter runner (ap (λ (b : List ℕ). is_begun b caller) begun) still.incarnation (still.seats caller) (calm.each caller letter runner has here);
  }

  pub no_letter_calm : ((caller letter : ℕ) → letter_of letters caller ≡ Some letter → is_letter_of letter character ≡ false) → AreCalm letters calls (seen ++ character ∷ []) new runners
  no_letter_calm none = still_calm (begun_more calls letters [] seen character ∙ ap (with_caller calls (begun_from calls letters [] seen)) (caller_none letters 0 character none))

pub still_same : (s : Sight) → IsStill s s
still_same s = record { stage = refl; incarnation = refl; seats = λ caller. refl; trail = refl }

-- ---- a letter of a caller

module _ (letters : List ℕ) (calls : List JobCall) (seen : List ℕ) (character place : ℕ) (is_here : ℕ) (here : letter_of letters place ≡ Some is_here) (matches : is_letter_of is_here character ≡ true)
    (one : (other another : ℕ) → letter_of letters other ≡ Some another → is_letter_of another character ≡ true → other ≡ place) (old new : Sight) (before now : List Runner) (calm : AreCalm letters calls seen old before) where
  abbrev had : List ℕ
  had = begun_from calls letters [] seen

  more : begun_from calls letters [] (seen ++ character ∷ []) ≡ with_caller calls had (Some place)
  more = begun_more calls letters [] seen character ∙ ap (with_caller calls had) (caller_here letters 0 place is_here character here matches one ∙ ap Some (omega arith))

  more_same : is_begun had place ≡ true → begun_from calls letters [] (seen ++ character ∷ []) ≡ had
  more_same there = more ∙ ap (λ b. cond (b || not (has_call calls place)) had (had ++ place ∷ [])) there

  more_none : is_begun had place ≡ false → has_call calls place ≡ false → begun_from calls letters [] (seen ++ character ∷ []) ≡ had
  more_none none uncalled = more ∙ ap (λ b. cond (b || not (has_call calls place)) had (had ++ place ∷ [])) none ∙ ap (λ b. cond (false || not b) had (had ++ place ∷ [])) uncalled

  more_one : is_begun had place ≡ false → has_call calls place ≡ true → begun_from calls letters [] (seen ++ character ∷ []) ≡ had ++ place ∷ []
  more_one none called = more ∙ ap (λ b. cond (b || not (has_call calls place)) had (had ++ place ∷ [])) none ∙ ap (λ b. cond (false || not b) had (had ++ place ∷ [])) called

  -- its list is done
  idle_begun : IsDoneAndIdle calls place old new before now → (b : Bool) → is_begun had place ≡ b → (c : Bool) → has_call calls place ≡ c → begun_from calls letters [] (seen ++ character ∷ []) ≡ had
  idle_begun idle true there c called = more_same there
  idle_begun idle false none false called = more_none none called
  idle_begun idle false none true called =
      let unbegun = (calm.each place is_here idle.runner here idle.here).outside none called in
      absurd (no_both (sym called ∙ none_called calls place (subst (λ n. slice_get (calls_of calls place) n ≡ None) unbegun.done idle.none)))

  idle_calm : IsDoneAndIdle calls place old new before now → AreCalm letters calls (seen ++ character ∷ []) new now
  idle_calm idle = subst (λ (s : Sight). AreCalm letters calls (seen ++ character ∷ []) s now) (sym idle.same) (subst (AreCalm letters calls (seen ++ character ∷ []) old) (sym idle.runners)
      (still_calm letters calls seen character old old before calm (still_same old) (idle_begun idle (is_begun had place) refl (has_call calls place) refl)))

  -- its call was stepped
  module _ (capital : Bool) (test : Option (Crossing → Bool)) (turn : IsTurn calls test capital place old new before now) (capital_is : nat_eq (character + 32) is_here ≡ capital) (next : is_calm_next letters seen character ≡ true)
      (nowhere : HoldsNowhere test) (plain : AreAllPlain new.history) where
    called : has_call calls place ≡ true
    called = some_call calls place turn.runner.done turn.call turn.next

    mine : IsInTurn letters calls seen old place is_here turn.runner
    mine = calm.each place is_here turn.runner here turn.here

    may : (nat_lt (used seen is_here) 2 && (nat_eq (character + 32) is_here || not (has_capital seen is_here))) ≡ true
    may = calm_at letters seen place is_here character here matches next

    few : used seen is_here < 2
    few = less_two (used seen is_here) (both_left (nat_lt (used seen is_here) 2) (nat_eq (character + 32) is_here || not (has_capital seen is_here)) may)

    -- what the step left, if the letter's caller is as it should be
    calm_by : new.stage ≡ old.stage → new.incarnation ≡ old.incarnation → (tickets : List Ticket) → without_seals new.trail ≡ map step.Entered tickets
        → map (λ (ticket : Ticket). ticket.caller) tickets ≡ begun_from calls letters [] (seen ++ character ∷ []) → AllByRecursion (λ (ticket : Ticket). ticket.ordinal ≡ 1) tickets
        → ((other : ℕ) → other ≢ place → is_begun (begun_from calls letters [] (seen ++ character ∷ [])) other ≡ is_begun had other)
        → IsInTurn letters calls (seen ++ character ∷ []) new place is_here turn.stepped → AreCalm letters calls (seen ++ character ∷ []) new now
    calm_by stage_is incarnation tickets trail callers firsts others stepped = record {
      runs = stage_is ∙ calm.runs;
      tickets = tickets;
      trail = trail;
      callers = callers;
      firsts = firsts;
      each = λ caller letter runner has found. elim (same_or_not caller place) [
        | inl same ↦
            (let runner_is : turn.stepped ≡ runner = same_Some turn.stepped runner (sym turn.there ∙ ap (slice_get now) (sym same) ∙ found) in
            let letter_is : is_here ≡ letter = same_Some is_here letter (sym here ∙ ap (letter_of letters) (sym same) ∙ has) in
            subst (λ n. IsInTurn letters calls (seen ++ character ∷ []) new n letter runner) (sym same)
            (subst (λ l. IsInTurn letters calls (seen ++ character ∷ []) new place l runner) letter_is
            (subst (IsInTurn letters calls (seen ++ character ∷ []) new place is_here) runner_is stepped)))
        | inr apart ↦ turn_stays letters calls seen character old new caller letter runner (others caller apart) incarnation (turn.seats caller apart)
            (calm.each caller letter runner has (turn.runners caller runner apart found))
      ];
    }

    -- it entered
    enters_calm : is_begun had place ≡ false → AreCalm letters calls (seen ++ character ∷ []) new now
    enters_calm none =
        let unbegun = mine.outside none called in
        let free : (old.seats turn.runner.crossings.caller).flight ≡ None = ap (λ n. (old.seats n).flight) turn.own ∙ unbegun.free in
        let goes : WentInside capital old new turn.runner.crossings.caller turn.stepped = subst (CalmlyFrom capital old new turn.runner turn.stepped) unbegun.stands (turn.steps nowhere plain) calm.runs free in
        let begun = more_one none called in
        calm_by goes.stage goes.incarnation (calm.tickets ++ goes.ticket ∷ [])
        (ap without_seals goes.trail ∙ seals_append old.trail (step.Entered goes.ticket ∷ []) ∙ ap (λ (steps : List Step). steps ++ step.Entered goes.ticket ∷ []) calm.trail
        ∙ sym (map-append step.Entered calm.tickets (goes.ticket ∷ [])))
        (map-append (λ (ticket : Ticket). ticket.caller) calm.tickets (goes.ticket ∷ []) ∙ ap (λ (cs : List ℕ). cs ++ goes.ticket.caller ∷ []) calm.callers ∙ ap (λ n. had ++ n ∷ []) (goes.own ∙ turn.own) ∙ sym begun)
        (all_both (λ (ticket : Ticket). ticket.ordinal ≡ 1) calm.tickets (goes.ticket ∷ []) calm.firsts
        ((let seat : (old.seats turn.runner.crossings.caller).begun ≡ 0 = ap (λ n. (old.seats n).begun) turn.own ∙ unbegun.begun in goes.ordinal ∙ ap (λ n. n + 1) seat), tt))
        (λ other apart. ap (λ (b : List ℕ). is_begun b other) begun ∙ begun_other had place other apart)
        (record {
          outside = λ never has. absurd (no_both (sym (begun_mine had place) ∙ ap (λ (b : List ℕ). is_begun b place) (sym begun) ∙ never));
          inside = λ there. record { ticket = goes.ticket; stands = goes.stands; present = goes.present ∙ sym goes.incarnation };
          stood = λ there. (let one_more = used_here seen character is_here matches in omega (arith, one_more));
          bare = λ there fewer small. goes.bare (sym capital_is ∙ capital_now seen character is_here small);
        })

    -- it stayed inside
    stays_calm : is_begun had place ≡ true → AreCalm letters calls (seen ++ character ∷ []) new now
    stays_calm there =
        let within = mine.inside there in
        let bare : capital ≡ false → has turn.runner.pages 0 ≡ false = λ small. mine.bare there few
        (or_not (nat_eq (character + 32) is_here) (has_capital seen is_here) (both_right (nat_lt (used seen is_here) 2) (nat_eq (character + 32) is_here || not (has_capital seen is_here)) may) (capital_is ∙ small)) in
        let stays : StaysInside old new within.ticket turn.stepped = subst (CalmlyFrom capital old new turn.runner turn.stepped) within.stands (turn.steps nowhere plain) within.present bare in
        let begun = more_same there in
        calm_by stays.stage stays.incarnation calm.tickets (ap without_seals stays.trail ∙ calm.trail) (calm.callers ∙ sym begun) calm.firsts
        (λ other apart. ap (λ (b : List ℕ). is_begun b other) begun)
        (record {
          outside = λ never has. absurd (no_both (sym there ∙ ap (λ (b : List ℕ). is_begun b place) (sym begun) ∙ never));
          inside = λ now_there. record { ticket = within.ticket; stands = stays.stands; present = within.present ∙ sym stays.incarnation };
          stood = λ now_there. (let one_more = used_here seen character is_here matches in omega (arith, one_more));
          bare = λ now_there fewer small. absurd (let one_more = used_here seen character is_here matches in let stood = mine.stood there in omega (arith, one_more, stood, fewer));
        })

    turn_calm : AreCalm letters calls (seen ++ character ∷ []) new now
    turn_calm = by_begun (is_begun had place) refl where
      by_begun : (b : Bool) → is_begun had place ≡ b → AreCalm letters calls (seen ++ character ∷ []) new now
      by_begun true there = stays_calm there
      by_begun false none = enters_calm none

  pub letter_calm : (capital : Bool) (test : Option (Crossing → Bool)) → TurnsCalmly calls test capital place old new before now → nat_eq (character + 32) is_here ≡ capital → is_calm_next letters seen character ≡ true → HoldsNowhere test
      → AreAllPlain new.history → AreCalm letters calls (seen ++ character ∷ []) new now
  letter_calm capital test turns capital_is next nowhere plain = elim turns [
    | inl turn ↦ turn_calm capital test turn capital_is next nowhere plain
    | inr idle ↦ idle_calm idle
  ]

-- ---- how an order tells

-- a trace that begins so goes on so
begins_on : (callers : List ℕ) (trail rest : List Step) → BeginsWith callers trail → BeginsWith callers (trail ++ rest)
begins_on [] trail rest begins = tt
begins_on (caller ∷ callers) [] rest begins = absurd begins
begins_on (caller ∷ callers) (step.Entered ticket ∷ trail) rest begins = (begins.0, begins.1, begins_on callers trail rest begins.2)
begins_on (caller ∷ callers) (step.Logged ticket ∷ trail) rest begins = absurd begins
begins_on (caller ∷ callers) (step.Stale ticket block ∷ trail) rest begins = absurd begins
begins_on (caller ∷ callers) (step.Left ticket ∷ trail) rest begins = absurd begins
begins_on (caller ∷ callers) (step.Struck n ∷ trail) rest begins = absurd begins
begins_on (caller ∷ callers) (step.Unwound ticket ∷ trail) rest begins = absurd begins
begins_on (caller ∷ callers) (step.Dropped ∷ trail) rest begins = absurd begins
begins_on (caller ∷ callers) (step.Remounted ∷ trail) rest begins = absurd begins
begins_on (caller ∷ callers) (step.Reopened ∷ trail) rest begins = absurd begins
begins_on (caller ∷ callers) (step.Replayed n ∷ trail) rest begins = absurd begins
begins_on (caller ∷ callers) (step.Resumed ∷ trail) rest begins = absurd begins
begins_on (caller ∷ callers) (step.Sealed n ∷ trail) rest begins = absurd begins
begins_on (caller ∷ callers) (step.Failed n ∷ trail) rest begins = absurd begins

begins_all : (tickets : List Ticket) → AllByRecursion (λ (ticket : Ticket). ticket.ordinal ≡ 1) tickets → BeginsWith (map (λ (ticket : Ticket). ticket.caller) tickets) (map step.Entered tickets)
begins_all [] firsts = tt
begins_all (ticket ∷ tickets) firsts = (refl, firsts.0, begins_all tickets firsts.1)

pub enters_on : (calls : List JobCall) (letters order : List ℕ) (trail now : List Step) → TrailGoesOn trail now → EntersFirst calls letters order trail → EntersFirst calls letters order now
enters_on calls letters order trail now goes enters =
    subst (BeginsWith (begun_from calls letters [] (calm_prefix letters order))) (sym (ap without_seals goes.whole ∙ seals_append trail goes.steps))
    (begins_on (begun_from calls letters [] (calm_prefix letters order)) (without_seals trail) (without_seals goes.steps) enters)

calm_begins : (letters : List ℕ) (calls : List JobCall) (seen : List ℕ) (sight : Sight) (runners : List Runner) → AreCalm letters calls seen sight runners → BeginsWith (begun_from calls letters [] seen) (without_seals sight.trail)
calm_begins letters calls seen sight runners calm =
    subst (λ (callers : List ℕ). BeginsWith callers (without_seals sight.trail)) calm.callers
    (subst (BeginsWith (map (λ (ticket : Ticket). ticket.caller) calm.tickets)) (sym calm.trail) (begins_all calm.tickets calm.firsts))

-- whether each character of a list may follow those before it
abbrev pub is_calm : List ℕ → List ℕ → List ℕ → Bool
is_calm letters seen [] = true
is_calm letters seen (character ∷ order) = cond (is_calm_next letters seen character) (is_calm letters (seen ++ character ∷ []) order) false

-- a list that may be as a whole
calm_whole : (letters seen order : List ℕ) → is_calm letters seen order ≡ true → calm_from letters seen order ≡ order
calm_whole letters seen [] calm = refl
calm_whole letters seen (character ∷ order) calm = by_first (is_calm_next letters seen character) (calm_whole letters (seen ++ character ∷ []) order) calm where
  by_first : (b : Bool) → (is_calm letters (seen ++ character ∷ []) order ≡ true → calm_from letters (seen ++ character ∷ []) order ≡ order) → cond b (is_calm letters (seen ++ character ∷ []) order) false ≡ true → cond b (character ∷ calm_from letters (seen ++ character ∷ []) order) [] ≡ character ∷ order
  by_first true whole rest = ap (λ (o : List ℕ). character ∷ o) (whole rest)
  by_first false whole rest = absurd (no_both (sym rest))

-- one character more
calm_more : (letters seen order : List ℕ) (last : ℕ) → is_calm letters seen (order ++ last ∷ []) ≡ (is_calm letters seen order && is_calm_next letters (seen ++ order) last)
calm_more letters seen [] last = same (is_calm_next letters seen last) ∙ ap (λ (s : List ℕ). is_calm_next letters s last) (sym (append-nil seen)) where
  same : (b : Bool) → cond b true false ≡ b
  same true = refl
  same false = refl
calm_more letters seen (character ∷ order) last = by_first (is_calm_next letters seen character)
    (calm_more letters (seen ++ character ∷ []) order last ∙ ap (λ (s : List ℕ). is_calm letters (seen ++ character ∷ []) order && is_calm_next letters s last) (append_assoc seen (character ∷ []) order)) where
      by_first : (b : Bool) → is_calm letters (seen ++ character ∷ []) (order ++ last ∷ []) ≡ (is_calm letters (seen ++ character ∷ []) order && is_calm_next letters (seen ++ character ∷ order) last)
          → cond b (is_calm letters (seen ++ character ∷ []) (order ++ last ∷ [])) false ≡ (cond b (is_calm letters (seen ++ character ∷ []) order) false && is_calm_next letters (seen ++ character ∷ order) last)
      by_first true rest = rest
      by_first false rest = refl

-- the last one may not follow
prefix_then : (letters seen order : List ℕ) (last : ℕ) → is_calm letters seen order ≡ true → is_calm_next letters (seen ++ order) last ≡ false → calm_from letters seen (order ++ last ∷ []) ≡ order
prefix_then letters seen [] last calm stops = ap (λ b. cond b (last ∷ []) []) (ap (λ (s : List ℕ). is_calm_next letters s last) (sym (append-nil seen)) ∙ stops)
prefix_then letters seen (character ∷ order) last calm stops = by_first (is_calm_next letters seen character)
    (λ rest. prefix_then letters (seen ++ character ∷ []) order last rest (ap (λ (s : List ℕ). is_calm_next letters s last) (append_assoc seen (character ∷ []) order) ∙ stops)) calm where
      by_first : (b : Bool) → (is_calm letters (seen ++ character ∷ []) order ≡ true → calm_from letters (seen ++ character ∷ []) (order ++ last ∷ []) ≡ order)
          → cond b (is_calm letters (seen ++ character ∷ []) order) false ≡ true → cond b (character ∷ calm_from letters (seen ++ character ∷ []) (order ++ last ∷ [])) [] ≡ character ∷ order
      by_first true then rest = ap (λ (o : List ℕ). character ∷ o) (then rest)
      by_first false then rest = absurd (no_both (sym rest))

-- one before it might not
prefix_ended : (letters seen order : List ℕ) (last : ℕ) → is_calm letters seen order ≡ false → calm_from letters seen (order ++ last ∷ []) ≡ calm_from letters seen order
prefix_ended letters seen [] last ended = absurd (no_both ended)
prefix_ended letters seen (character ∷ order) last ended = by_first (is_calm_next letters seen character) (prefix_ended letters (seen ++ character ∷ []) order last) ended where
  by_first : (b : Bool) → (is_calm letters (seen ++ character ∷ []) order ≡ false → calm_from letters (seen ++ character ∷ []) (order ++ last ∷ []) ≡ calm_from letters (seen ++ character ∷ []) order)
      → cond b (is_calm letters (seen ++ character ∷ []) order) false ≡ false
      → cond b (character ∷ calm_from letters (seen ++ character ∷ []) (order ++ last ∷ [])) [] ≡ cond b (character ∷ calm_from letters (seen ++ character ∷ []) order) []
  by_first true then rest = ap (λ (o : List ℕ). character ∷ o) (then rest)
  by_first false then rest = refl

-- ---- an order, character by character

-- after the characters that were seen the trace begins as they tell it, and all callers are calm as long as each might follow
pub record IsToldBy (letters : List ℕ) (calls : List JobCall) (seen : List ℕ) (sight : Sight) (runners : List Runner) : Type 0 where
  pub calm : is_calm letters [] seen ≡ true → AreCalm letters calls seen sight runners
  pub enters : EntersFirst calls letters seen sight.trail

module _ (letters : List ℕ) (calls : List JobCall) (seen : List ℕ) (character : ℕ) (old new : Sight) (before now : List Runner) (told : IsToldBy letters calls seen old before) (goes : TrailGoesOn old.trail new.trail)
    (keeps : KeepsCalm letters calls character old new before now) (plain : AreAllPlain new.history) where
  calm_on : is_calm letters [] seen ≡ true → is_calm_next letters seen character ≡ true → AreCalm letters calls (seen ++ character ∷ []) new now
  calm_on calm next = keeps seen next (told.calm calm) plain

  -- the characters that tell are the same
  ends_there : calm_prefix letters (seen ++ character ∷ []) ≡ calm_prefix letters seen → EntersFirst calls letters (seen ++ character ∷ []) new.trail
  ends_there same = subst (λ (prefix : List ℕ). BeginsWith (begun_from calls letters [] prefix) (without_seals new.trail)) (sym same) (enters_on calls letters seen old.trail new.trail goes told.enters)

  enters_by : (b : Bool) → is_calm letters [] seen ≡ b → (c : Bool) → is_calm_next letters seen character ≡ c → EntersFirst calls letters (seen ++ character ∷ []) new.trail
  enters_by true calm true next =
      let whole : is_calm letters [] (seen ++ character ∷ []) ≡ true = calm_more letters [] seen character ∙ ap (λ b. b && is_calm_next letters seen character) calm ∙ next in
      subst (λ (prefix : List ℕ). BeginsWith (begun_from calls letters [] prefix) (without_seals new.trail)) (sym (calm_whole letters [] (seen ++ character ∷ []) whole))
      (calm_begins letters calls (seen ++ character ∷ []) new now (calm_on calm next))
  enters_by true calm false stops = ends_there (prefix_then letters [] seen character calm stops ∙ sym (calm_whole letters [] seen calm))
  enters_by false ended c next = ends_there (prefix_ended letters [] seen character ended)

  pub told_on : IsToldBy letters calls (seen ++ character ∷ []) new now
  told_on = record {
    calm = λ so. (let both = sym (calm_more letters [] seen character) ∙ so in
        calm_on (both_left (is_calm letters [] seen) (is_calm_next letters seen character) both) (both_right (is_calm letters [] seen) (is_calm_next letters seen character) both));
    enters = enters_by (is_calm letters [] seen) refl (is_calm_next letters seen character) refl;
  }

-- the same of the characters of an order
pub told_take : (letters : List ℕ) (calls : List JobCall) (order : List ℕ) (index : ℕ) (old new : Sight) (before now : List Runner) → index < length order → IsToldBy letters calls (take index order) old before → TrailGoesOn old.trail new.trail
    → KeepsCalm letters calls (get_or order index 0) old new before now → AreAllPlain new.history → IsToldBy letters calls (take (index + 1) order) new now
told_take letters calls order index old new before now within told goes keeps plain =
    subst (λ (seen : List ℕ). IsToldBy letters calls seen new now) (sym (take_more order index 0 within)) (told_on letters calls (take index order) (get_or order index 0) old new before now told goes keeps plain)

-- ---- the step of a character

module _ (callers : List Caller) (calls : List JobCall) (old new : Sight) (before now : List Runner) (letters : AreLetters (letters_of callers)) where
  small_at : (caller letter : ℕ) → letter_of (letters_of callers) caller ≡ Some letter → (97 ≤ letter) × (letter ≤ 122)
  small_at caller letter has = all_at (λ (n : ℕ). (97 ≤ n) × (n ≤ 122)) (letters_of callers) caller letter letters.small has

  none_matches : (character : ℕ) → ((caller letter : ℕ) → letter_of (letters_of callers) caller ≡ Some letter → is_letter_of letter character ≡ true → ⊥)
      → (caller letter : ℕ) → letter_of (letters_of callers) caller ≡ Some letter → is_letter_of letter character ≡ false
  none_matches character never caller letter has = by_first (is_letter_of letter character) refl where
    by_first : (b : Bool) → is_letter_of letter character ≡ b → is_letter_of letter character ≡ false
    by_first true is = absurd (never caller letter has is)
    by_first false is = is

  -- a character that is no letter
  pub no_letter_keeps : (character : ℕ) → ((letter : ℕ) → 97 ≤ letter → letter ≤ 122 → (character ≡ letter) ⊎ (character + 32 ≡ letter) → ⊥) → IsStill old new → now ≡ before
      → KeepsCalm (letters_of callers) calls character old new before now
  no_letter_keeps character other still runners = λ seen next calm plain. subst (AreCalm (letters_of callers) calls (seen ++ character ∷ []) new) (sym runners)
      (no_letter_calm (letters_of callers) calls seen character old new before calm still
      (none_matches character (λ caller letter has is. (let small = small_at caller letter has in other letter small.0 small.1 (letter_or letter character is)))))

  -- a letter that no caller has
  pub lacked_keeps : (character : ℕ) → LacksLetter callers (to_ascii_lowercase character) → new ≡ old → now ≡ before → KeepsCalm (letters_of callers) calls character old new before now
  lacked_keeps character lacks same runners = λ seen next calm plain. subst (λ (s : Sight). AreCalm (letters_of callers) calls (seen ++ character ∷ []) s now) (sym same)
      (subst (AreCalm (letters_of callers) calls (seen ++ character ∷ []) old) (sym runners)
      (no_letter_calm (letters_of callers) calls seen character old old before calm (still_same old)
      (none_matches character (λ caller letter has is. (let small = small_at caller letter has in let found = lettered_at callers caller letter has in
      lacks caller found.0 found.1 (found.2 ∙ sym (lower_is letter character small.0 small.1 is)))))))

  -- a letter of a caller
  pub letter_keeps : (character place : ℕ) (capital : Bool) (test : Option (Crossing → Bool)) → HasLetter callers (to_ascii_lowercase character) place → is_ascii_uppercase character ≡ capital
      → TurnsCalmly calls test capital place old new before now → HoldsNowhere test → KeepsCalm (letters_of callers) calls character old new before now
  letter_keeps character place capital test found upper turns nowhere =
      let letter = found.caller.letter in
      let here : letter_of (letters_of callers) place ≡ Some letter = letter_here callers place found.caller found.here in
      let small = small_at place letter here in
      let matches : is_letter_of letter character ≡ true = letter_yes letter character (lower_from letter character small.0 small.1 (sym found.is)) in
      λ seen next calm plain. letter_calm (letters_of callers) calls seen character place letter here matches
      (λ other another has is. (let its = small_at other another has in
      let same : another ≡ letter = sym (lower_is another character its.0 its.1 is) ∙ sym found.is in
      one_place (letters_of callers) other place letter letters.apart (has ∙ ap Some same) here))
      old new before now calm capital test turns (capital_is letter character small.0 small.1 (sym found.is) ∙ upper) next nowhere plain where
        capital_is : (letter character : ℕ) → 97 ≤ letter → letter ≤ 122 → to_ascii_lowercase character ≡ letter → nat_eq (character + 32) letter ≡ is_ascii_uppercase character
        capital_is letter character low high is = grind (arith, nat_tests, low, high, is)

  -- a step of a recovery, where none is in progress
  pub star_keeps : (character : ℕ) → ((letter : ℕ) → 97 ≤ letter → letter ≤ 122 → (character ≡ letter) ⊎ (character + 32 ≡ letter) → ⊥) → (recovers old.stage ≡ false → (new ≡ old) × (now ≡ before))
      → KeepsCalm (letters_of callers) calls character old new before now
  star_keeps character other idle = λ seen next calm plain. (let same = idle (ap recovers calm.runs) in
      no_letter_keeps character other (subst (IsStill old) (sym same.0) (still_same old)) same.1 seen next calm plain)

-- ---- what is no letter

pub sealed_still : (old new : Sight) → IsSealedNow old new → IsStill old new
sealed_still old new is = elim is [
  | inl taken ↦ subst (IsStill old) (sym taken.1) (record { stage = refl; incarnation = refl; seats = λ caller. refl; trail = seals_append old.trail (step.Sealed (length old.history) ∷ []) ∙ append-nil (without_seals old.trail) })
  | inr none ↦ subst (IsStill old) (sym none.1) (still_same old)
]

pub flushed_still : (old new : Sight) (answer : Flushed) → FlushesWith old new answer → IsStill old new
flushed_still old new flushed.One flushes = subst (IsStill old) (sym flushes.1) (record { stage = refl; incarnation = refl; seats = λ caller. refl; trail = refl })
flushed_still old new flushed.Clean flushes = subst (IsStill old) (sym flushes.1) (still_same old)
flushed_still old new flushed.Device flushes = subst (IsStill old) (sym flushes.1) (still_same old)

-- ---- one caller of all

module _ (calls : List JobCall) (test : Option (Crossing → Bool)) (old new : Sight) (runners : List Runner) (caller : ℕ) (x d now : Runner) (underway : AllUnderWay calls test old runners) (low : caller < length runners) where
  own : (get_or runners caller d).crossings.caller ≡ caller
  own = (underway.served caller (get_or runners caller d) (got runners caller d low)).caller_is

  pub letter_turns : (capital : Bool) (call : Call) → slice_get (calls_of calls caller) (get_or runners caller x).done ≡ Some call → MovesCall calls test old new (get_or runners caller d) now
      → StepsCalmly capital test old new (get_or runners caller d) now → TurnsCalmly calls test capital caller old new runners (slice_set runners caller now)
  letter_turns capital call next moves steps = inl (record {
    runner = get_or runners caller d;
    stepped = now;
    call = call;
    here = got runners caller d low;
    own = own;
    next = subst (λ (r : Runner). slice_get (calls_of calls caller) r.done ≡ Some call) (same_gets runners caller x d low) next;
    there = put_here runners caller now low;
    steps = steps;
    runners = λ other found apart is. elim (put_get runners caller other now found low is) [ inl mine ↦ absurd (apart mine.0) | inr theirs ↦ theirs.1 ];
    seats = λ other apart. moves.nears.acts.seats other (λ same. apart (same ∙ own));
  })

  pub letter_idle : slice_get (calls_of calls caller) (get_or runners caller x).done ≡ None → (capital : Bool) → TurnsCalmly calls test capital caller old old runners runners
  letter_idle none capital = inr (record { runner = get_or runners caller x; here = got runners caller x low; none = none; same = refl; runners = refl })

-- ---- a job at its beginning

pub first_calm : (letters : List ℕ) (calls : List JobCall) (sight : Sight) (runners : List Runner) → sight.stage ≡ stage.Running → sight.trail ≡ [] → ((caller : ℕ) → sight.seats caller ≡ record { begun = 0; flight = None })
    → ((caller : ℕ) (runner : Runner) → slice_get runners caller ≡ Some runner → runner ≡ new_runner caller) → AreCalm letters calls [] sight runners
first_calm letters calls sight runners runs trail seats new = record {
  runs = runs;
  tickets = [];
  trail = ap without_seals trail;
  callers = refl;
  firsts = tt;
  each = λ caller letter runner has here. record {
    outside = λ none called. record {
      stands = ap (λ (r : Runner). r.at) (new caller runner here);
      free = ap (λ (s : SightSeat). s.flight) (seats caller);
      begun = ap (λ (s : SightSeat). s.begun) (seats caller);
      done = ap (λ (r : Runner). r.done) (new caller runner here);
    };
    inside = λ wrong. absurd (no_both (sym wrong));
    stood = λ wrong. absurd (no_both (sym wrong));
    bare = λ wrong few none. absurd (no_both (sym wrong));
  };
}
