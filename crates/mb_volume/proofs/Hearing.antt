-- The fault injector's count of faults beside the fault points that a call passed.
use Rattle.std.proofs.Common.{◌≡◌, ◌≢◌, ℕ, ◌+◌, ◌-◌, ◌^◌, ◌≤◌, ◌&&◌, Bool, true, false, IfSome, inl, inr, min, nat_eq, not, refl, ap, sym, subst, ◌∙◌, arith, Option, None, Some}
use Rattle.std.proofs.lemmas.Bool.{ne_eqb}
use Rattle.mb_edge.specs.Causes.{Rose}
use Rattle.mb_edge.specs.Crossings.{place_of}
use Rattle.mb_edge.specs.Hooks.{AnswersTest}
use Rattle.mb_edge.specs.declared.crossings.Crossing.{Crossing}
use Rattle.mb_edge.specs.declared.crossings.Crossings.{Crossings}
use Rattle.mb_edge.specs.declared.hooks.Word.TheVariants as word
use Rattle.mb_kinds.specs.declared.faults.Kind.{Kind}
use Rattle.mb_kinds.specs.declared.faults.Kind.TheVariants.{Enter, Gather, Finish, Leave, Remount, Replay}
use Rattle.mb_kinds.specs.declared.faults.Ticket.{Ticket}
use Rattle.mb_run.proofs.Counting.{same_or_not}
use Rattle.mb_run.proofs.TallyRecords.{counted_some, counted_there, next_first}
use Rattle.mb_run.specs.Recovering.{next_of}
use Rattle.mb_run.specs.Served.{AreSixCounts, counted}
use Rattle.mb_run.specs.Sights.{SightSeat, one_if}
use Rattle.mb_run.specs.Tallies.{count_of, is_logged}
use Rattle.mb_run.specs.declared.runner.At.TheVariants as at
use Rattle.mb_volume.specs.Attempts.{new_attempt}
use Rattle.mb_volume.specs.Called.{TakesFirsts, first_of_kind, firsts_planned}
use Rattle.mb_volume.specs.Passed.{EnteredBy, HasFinished, HasHeard, HasPassed, HasPassedAt, HeardBy, Hears, HearsAt, HearsFault, IsCalm, IsHeard, IsPastEnter, IsPastLeave, KeepsOwn, PassedBy, firsts_met, met_if}
use Rattle.mb_volume.specs.Underway.{FlightHasEntry}
use Rattle.mb_volume.specs.declared.attempt.Attempt.{Attempt}
use Rattle.mb_volume.specs.declared.events.Came.{Came}
use Rattle.mb_volume.specs.declared.events.Came.TheVariants as came
use Rattle.mb_volume.proofs.Marking.{grown_counted, keeps_same, passed_on}

-- ---- the first fault points that were met

rose_more : (first before now : ℕ) → before ≤ now → Rose first before → Rose first now
rose_more first before now more rose = omega (arith, more, rose)

-- what was counted is met where the test holds
counted_met : (n : ℕ) (holds : Bool) → n ≢ 0 → one_if (not (nat_eq n 0) && holds) ≡ one_if holds
counted_met n holds was = ap (λ b. one_if (not b && holds)) (ne_eqb n 0 was)

module _ (fires : Crossing → Bool) (caller ordinal : ℕ) where
  met_same : (one other : Crossings) (kind : Kind) → count_of other kind ≡ count_of one kind → met_if fires caller ordinal other kind ≡ met_if fires caller ordinal one kind
  met_same one other kind same = ap (λ n. one_if (not (nat_eq n 0) && fires (first_of_kind caller ordinal kind))) same

  kept_met : (old new : Crossings) → KeepsOwn old new → firsts_met fires caller ordinal new ≡ firsts_met fires caller ordinal old
  kept_met old new keeps =
      let enter = met_same old new Enter (keeps.counts Enter refl) in
      let gather = met_same old new Gather (keeps.counts Gather refl) in
      let finish = met_same old new Finish (keeps.counts Finish refl) in
      let leave = met_same old new Leave (keeps.counts Leave refl) in
      omega (arith, enter, gather, finish, leave)

  -- a call that was where it leaves met all that are planned
  past_met : (crossings : Crossings) → IsPastLeave crossings → firsts_met fires caller ordinal crossings ≡ firsts_planned fires caller ordinal
  past_met crossings past =
      let enter = counted_met (count_of crossings Enter) (fires (first_of_kind caller ordinal Enter)) past.finished.enters in
      let gather = counted_met (count_of crossings Gather) (fires (first_of_kind caller ordinal Gather)) past.finished.gathers in
      let finish = counted_met (count_of crossings Finish) (fires (first_of_kind caller ordinal Finish)) past.finished.finishes in
      let leave = counted_met (count_of crossings Leave) (fires (first_of_kind caller ordinal Leave)) past.leaves in
      omega (arith, enter, gather, finish, leave)

  -- one more of a kind is counted: of that kind one more is met at most, if it is the first one, and of the others as many
  module _ (crossings : Crossings) (kind : Kind) (are : AreSixCounts crossings) (more : ℕ) (here : count_of crossings kind ≡ 0 → one_if (fires (first_of_kind caller ordinal kind)) ≤ more) where
    met_there : (other : Kind) → place_of other ≢ place_of kind → met_if fires caller ordinal (counted crossings kind) other ≡ met_if fires caller ordinal crossings other
    met_there other apart = met_same crossings (counted crossings kind) other (counted_there crossings kind are other apart)

    met_here : met_if fires caller ordinal (counted crossings kind) kind ≤ met_if fires caller ordinal crossings kind + more
    met_here =
        let now = counted_met (count_of (counted crossings kind) kind) (fires (first_of_kind caller ordinal kind)) (counted_some crossings kind are) in
        elim (same_or_not (count_of crossings kind) 0) [
          | inl none ↦ (let most = here none in omega (arith, now, most))
          | inr was ↦ (let then = counted_met (count_of crossings kind) (fires (first_of_kind caller ordinal kind)) was in omega (arith, now, then))
        ]

  met_next : (crossings : Crossings) (kind : Kind) → AreSixCounts crossings → (more : ℕ) → (count_of crossings kind ≡ 0 → one_if (fires (first_of_kind caller ordinal kind)) ≤ more)
      → firsts_met fires caller ordinal (counted crossings kind) ≤ firsts_met fires caller ordinal crossings + more
  met_next crossings Enter are more here =
      let enter = met_here crossings Enter are more here in
      let gather = met_there crossings Enter are more here Gather (λ is. let no : 1 ≡ 0 = is in omega (arith, no)) in
      let finish = met_there crossings Enter are more here Finish (λ is. let no : 2 ≡ 0 = is in omega (arith, no)) in
      let leave = met_there crossings Enter are more here Leave (λ is. let no : 3 ≡ 0 = is in omega (arith, no)) in
      omega (arith, enter, gather, finish, leave)
  met_next crossings Gather are more here =
      let enter = met_there crossings Gather are more here Enter (λ is. let no : 0 ≡ 1 = is in omega (arith, no)) in
      let gather = met_here crossings Gather are more here in
      let finish = met_there crossings Gather are more here Finish (λ is. let no : 2 ≡ 1 = is in omega (arith, no)) in
      let leave = met_there crossings Gather are more here Leave (λ is. let no : 3 ≡ 1 = is in omega (arith, no)) in
      omega (arith, enter, gather, finish, leave)
  met_next crossings Finish are more here =
      let enter = met_there crossings Finish are more here Enter (λ is. let no : 0 ≡ 2 = is in omega (arith, no)) in
      let gather = met_there crossings Finish are more here Gather (λ is. let no : 1 ≡ 2 = is in omega (arith, no)) in
      let finish = met_here crossings Finish are more here in
      let leave = met_there crossings Finish are more here Leave (λ is. let no : 3 ≡ 2 = is in omega (arith, no)) in
      omega (arith, enter, gather, finish, leave)
  met_next crossings Leave are more here =
      let enter = met_there crossings Leave are more here Enter (λ is. let no : 0 ≡ 3 = is in omega (arith, no)) in
      let gather = met_there crossings Leave are more here Gather (λ is. let no : 1 ≡ 3 = is in omega (arith, no)) in
      let finish = met_there crossings Leave are more here Finish (λ is. let no : 2 ≡ 3 = is in omega (arith, no)) in
      let leave = met_here crossings Leave are more here in
      omega (arith, enter, gather, finish, leave)
  met_next crossings Remount are more here =
      let enter = met_there crossings Remount are more here Enter (λ is. let no : 0 ≡ 4 = is in omega (arith, no)) in
      let gather = met_there crossings Remount are more here Gather (λ is. let no : 1 ≡ 4 = is in omega (arith, no)) in
      let finish = met_there crossings Remount are more here Finish (λ is. let no : 2 ≡ 4 = is in omega (arith, no)) in
      let leave = met_there crossings Remount are more here Leave (λ is. let no : 3 ≡ 4 = is in omega (arith, no)) in
      omega (arith, enter, gather, finish, leave)
  met_next crossings Replay are more here =
      let enter = met_there crossings Replay are more here Enter (λ is. let no : 0 ≡ 5 = is in omega (arith, no)) in
      let gather = met_there crossings Replay are more here Gather (λ is. let no : 1 ≡ 5 = is in omega (arith, no)) in
      let finish = met_there crossings Replay are more here Finish (λ is. let no : 2 ≡ 5 = is in omega (arith, no)) in
      let leave = met_there crossings Replay are more here Leave (λ is. let no : 3 ≡ 5 = is in omega (arith, no)) in
      omega (arith, enter, gather, finish, leave)

-- ---- the count never falls

takes_kept : (test : Option (Crossing → Bool)) (caller ordinal first before now : ℕ) (old new : Crossings) → before ≤ now → KeepsOwn old new → IfSome test (λ fires. min (first + firsts_met fires caller ordinal old) (2 ^ 64 - 1) ≤ before)
    → IfSome test (λ fires. min (first + firsts_met fires caller ordinal new) (2 ^ 64 - 1) ≤ now)
takes_kept None caller ordinal first before now old new more keeps taken = tt
takes_kept (Some fires) caller ordinal first before now old new more keeps taken = let same = kept_met fires caller ordinal old new keeps in omega (arith, same, more, taken)

pub heard_kept : (test : Option (Crossing → Bool)) (caller ordinal first before now : ℕ) (old new : Crossings) → before ≤ now → KeepsOwn old new → HasHeard test caller ordinal first before old → HasHeard test caller ordinal first now new
heard_kept test caller ordinal first before now old new more keeps heard = record {
  caller_is = keeps.caller ∙ heard.caller_is;
  ordinal_is = keeps.ordinal ∙ heard.ordinal_is;
  later = (let was = heard.later in omega (arith, more, was));
  taken = takes_kept test caller ordinal first before now old new more keeps heard.taken;
}

-- ---- the fault injector is asked

first_point : (crossings : Crossings) (kind : Kind) (caller ordinal : ℕ) → crossings.caller ≡ caller → crossings.ordinal ≡ ordinal → count_of crossings kind ≡ 0 → next_of kind crossings ≡ first_of_kind caller ordinal kind
first_point crossings kind caller ordinal mine mine_too none =
    let point : ℕ → ℕ → ℕ → Crossing = λ c o n. record { caller = c; ordinal = o; kind = kind; nth = n } in
    ap (λ n. point crossings.caller crossings.ordinal n) (next_first crossings.counts kind none) ∙ ap (λ c. point c crossings.ordinal 1) mine ∙ ap (λ o. point caller o 1) mine_too

one_most : (b : Bool) → one_if b ≤ 1
one_most true = omega arith
one_most false = omega arith

module _ (crossings : Crossings) (kind : Kind) (are : AreSixCounts crossings) (caller ordinal first before now : ℕ) (later : before ≤ now) where
  -- it let the call go on
  let_go : (test : Option (Crossing → Bool)) → crossings.caller ≡ caller → crossings.ordinal ≡ ordinal → AnswersTest test (next_of kind crossings) word.Go → IfSome test (λ fires. min (first + firsts_met fires caller ordinal crossings) (2 ^ 64 - 1) ≤ before)
      → IfSome test (λ fires. min (first + firsts_met fires caller ordinal (counted crossings kind)) (2 ^ 64 - 1) ≤ now)
  let_go None mine mine_too answers taken = tt
  let_go (Some fires) mine mine_too answers taken =
      let met = met_next fires caller ordinal crossings kind are 0 (λ none. (let is : one_if (fires (first_of_kind caller ordinal kind)) ≡ 0 = ap one_if (ap fires (sym (first_point crossings kind caller ordinal mine mine_too none)) ∙ sym answers) in omega (arith, is))) in
      omega (arith, met, later, taken)

  -- it faulted
  struck : (test : Option (Crossing → Bool)) → Rose before now → IfSome test (λ fires. min (first + firsts_met fires caller ordinal crossings) (2 ^ 64 - 1) ≤ before)
      → IfSome test (λ fires. min (first + firsts_met fires caller ordinal (counted crossings kind)) (2 ^ 64 - 1) ≤ now)
  struck None rose taken = tt
  struck (Some fires) rose taken =
      let met = met_next fires caller ordinal crossings kind are 1 (λ none. one_most (fires (first_of_kind caller ordinal kind))) in
      omega (arith, met, rose, taken)

module _ (test : Option (Crossing → Bool)) (crossings : Crossings) (kind : Kind) (are : AreSixCounts crossings) where
  pub hears_go : (before now : ℕ) → before ≤ now → AnswersTest test (next_of kind crossings) word.Go → HearsAt test before now crossings kind
  hears_go before now more answers = λ caller ordinal first heard. record {
    caller_is = heard.caller_is;
    ordinal_is = heard.ordinal_is;
    later = (let was = heard.later in omega (arith, more, was));
    taken = let_go crossings kind are caller ordinal first before now more test heard.caller_is heard.ordinal_is answers heard.taken;
  }

  heard_fault : (caller ordinal first before now : ℕ) → Rose before now → before ≤ now → HasHeard test caller ordinal first before crossings → HasHeard test caller ordinal first now (counted crossings kind)
  heard_fault caller ordinal first before now rose more heard = record {
    caller_is = heard.caller_is;
    ordinal_is = heard.ordinal_is;
    later = (let was = heard.later in omega (arith, more, was));
    taken = struck crossings kind are caller ordinal first before now more test rose heard.taken;
  }

-- ---- what a step comes to

taken_by : (test : Option (Crossing → Bool)) (caller ordinal first now : ℕ) (crossings : Crossings) → IsPastLeave crossings → IfSome test (λ fires. min (first + firsts_met fires caller ordinal crossings) (2 ^ 64 - 1) ≤ now)
    → TakesFirsts test caller ordinal first now
taken_by None caller ordinal first now crossings past taken = tt
taken_by (Some fires) caller ordinal first now crossings past taken = let all = past_met fires caller ordinal crossings past in omega (arith, all, taken)

taken_all : (test : Option (Crossing → Bool)) (caller ordinal first now : ℕ) (crossings : Crossings) → HasHeard test caller ordinal first now crossings → IsPastLeave crossings → TakesFirsts test caller ordinal first now
taken_all test caller ordinal first now crossings heard past = taken_by test caller ordinal first now crossings past heard.taken

heard_came : (test : Option (Crossing → Bool)) (caller ordinal first now : ℕ) (seat : SightSeat) (after : Attempt) (answer : Came) → (IsCalm answer → HasHeard test caller ordinal first now after.crossings) → PassedBy seat after answer
    → HeardBy test caller ordinal first now seat after answer
heard_came test caller ordinal first now seat after (came.Answered answer) heard passed = λ plain. taken_all test caller ordinal first now after.crossings (heard plain) (passed plain)
heard_came test caller ordinal first now seat after (came.Inside ticket) heard passed = record { heard = heard tt; passed = passed }
heard_came test caller ordinal first now seat after came.On heard passed = record { heard = heard tt; passed = passed }
heard_came test caller ordinal first now seat after came.Shut heard passed = record { heard = heard tt; passed = passed }
heard_came test caller ordinal first now seat after came.Busy heard passed = record { heard = heard tt; passed = passed }
heard_came test caller ordinal first now seat after came.NoMemory heard passed = tt

module _ (test : Option (Crossing → Bool)) (was is : SightSeat) (old after : Attempt) (answer : Came) where
  -- an event for which nobody was asked
  pub hears_event : (before now : ℕ) → before ≤ now → (IsCalm answer → KeepsOwn old.crossings after.crossings) → (HasPassed was.flight old → PassedBy is after answer) → Hears test before now was is old after answer
  hears_event before now more keeps passes = λ caller ordinal first heard.
      heard_came test caller ordinal first now is after answer (λ calm. heard_kept test caller ordinal first before now old.crossings after.crossings more (keeps calm) heard.heard) (passes heard.passed)

  pub hears_same : (before now : ℕ) → before ≤ now → after.crossings ≡ old.crossings → (HasPassed was.flight old → PassedBy is after answer) → Hears test before now was is old after answer
  hears_same before now more same passes = hears_event before now more (λ calm. keeps_same old.crossings after.crossings same) passes

  -- the call is struck where the fault injector was asked
  pub hears_fault : (before asked now : ℕ) (kind : Kind) → AreSixCounts old.crossings → Rose before asked → asked ≤ now → before ≤ asked → after.crossings ≡ counted old.crossings kind
      → ((is_logged old.at ≡ 1 → IsPastLeave (counted old.crossings kind)) → PassedBy is after answer) → HearsFault test before now is old after kind answer
  hears_fault before asked now kind are rose more less same passes = λ caller ordinal first heard asked_for.
      heard_came test caller ordinal first now is after answer
      (λ calm. subst (HasHeard test caller ordinal first now) (sym same) (heard_fault test old.crossings kind are caller ordinal first before now (rose_more before asked now more rose) (omega (arith, more, less)) heard)) (passes asked_for)

  -- it let the call go on to an event
  pub hears_asked : (before asked now : ℕ) (kind : Kind) (mid : Attempt) → AreSixCounts old.crossings → mid ≡ record old { crossings = counted old.crossings kind } → HearsAt test before asked old.crossings kind → asked ≤ now → after.crossings ≡ mid.crossings
      → (HasPassed was.flight mid → PassedBy is after answer) → Hears test before now was is old after answer
  hears_asked before asked now kind mid are counts hears more same passes = λ caller ordinal first heard.
      heard_came test caller ordinal first now is after answer
      (λ calm. heard_kept test caller ordinal first asked now (counted old.crossings kind) after.crossings more (keeps_same (counted old.crossings kind) after.crossings (same ∙ ap (λ (a : Attempt). a.crossings) counts)) (hears caller ordinal first heard.heard))
      (passes (subst (HasPassed was.flight) (sym counts) (passed_on was.flight old (counted old.crossings kind) (grown_counted old.crossings kind are) heard.passed)))

-- the call was counted where it is asked
pub asked_there : (old mid : Attempt) (kind : Kind) → AreSixCounts old.crossings → mid ≡ record old { crossings = counted old.crossings kind } → count_of mid.crossings kind ≢ 0
asked_there old mid kind are counts = subst (λ (a : Attempt). count_of a.crossings kind ≢ 0) (sym counts) (counted_some old.crossings kind are)

-- ---- a call that is struck inside, or where it leaves

pub not_logged : (attempt : Attempt) (ticket : Ticket) (crossings : Crossings) → attempt.at ≡ at.Inside ticket → is_logged attempt.at ≡ 1 → IsPastLeave crossings
not_logged attempt ticket crossings inside logged = absurd (let both : 0 ≡ 1 = sym (ap is_logged inside) ∙ logged in omega (arith, both))

pub inside_leaves : (attempt : Attempt) (ticket : Ticket) (kind : Kind) → attempt.at ≡ at.Inside ticket → is_logged attempt.at ≡ 1 → kind ≡ Leave
inside_leaves attempt ticket kind inside logged = absurd (let both : 0 ≡ 1 = sym (ap is_logged inside) ∙ logged in omega (arith, both))

pub past_leave : (seat : SightSeat) (attempt : Attempt) (ticket : Ticket) → AreSixCounts attempt.crossings → attempt.at ≡ at.Logged ticket → HasPassed seat.flight attempt → IsPastLeave (counted attempt.crossings Leave)
past_leave seat attempt ticket are logged passed =
    let was : HasFinished attempt.crossings = subst (HasPassedAt seat.flight attempt) logged passed in
    let grown = grown_counted attempt.crossings Leave are in
    record {
      finished = record { enters = grown Enter refl was.enters; gathers = grown Gather refl was.gathers; finishes = grown Finish refl was.finishes };
      leaves = counted_some attempt.crossings Leave are;
    }

-- ---- the call enters

pub entered_inside : (seat : SightSeat) (mid : Attempt) (ticket : Ticket) (after : Attempt) → AreSixCounts mid.crossings → mid.at ≡ at.Inside ticket → EnteredBy seat mid (came.Inside ticket) → after ≡ record mid { crossings = counted mid.crossings Enter }
    → HasPassed seat.flight after
entered_inside seat mid ticket after are inside entered counts =
    subst (HasPassed seat.flight) (sym counts) (subst (HasPassedAt seat.flight (record mid { crossings = counted mid.crossings Enter })) (sym inside) (record {
      enters = counted_some mid.crossings Enter are;
      gathers = λ there. absurd (let both : false ≡ true = rw entered.0 at there in cc);
      finishes = λ asked. absurd (let both : false ≡ true = sym entered.1 ∙ asked in cc);
    }))

module _ (test : Option (Crossing → Bool)) (was is last : SightSeat) (old mid after : Attempt) (answer : Came) (ticket : Ticket) (inside : mid.at ≡ at.Inside ticket) (before between now : ℕ) (more : before ≤ between) (same : mid.crossings ≡ old.crossings) where
  entered_heard : (caller ordinal first : ℕ) → HasHeard test caller ordinal first before old.crossings → HasHeard test caller ordinal first between mid.crossings
  entered_heard caller ordinal first heard = heard_kept test caller ordinal first before between old.crossings mid.crossings more (keeps_same old.crossings mid.crossings same) heard

  -- the fault injector let it go on
  pub hears_entered : answer ≡ came.Inside ticket → AreSixCounts mid.crossings → (HasPassed was.flight old → EnteredBy is mid answer) → HearsAt test between now mid.crossings Enter → last ≡ is → after ≡ record mid { crossings = counted mid.crossings Enter }
      → Hears test before now was last old after came.On
  hears_entered said are passes hears seat counts = λ caller ordinal first heard.
      subst (λ (s : SightSeat). IsHeard test caller ordinal first now s after) (sym seat) (record {
        heard = subst (λ (a : Attempt). HasHeard test caller ordinal first now a.crossings) (sym counts) (hears caller ordinal first (entered_heard caller ordinal first heard.heard));
        passed = entered_inside is mid ticket after are inside (subst (EnteredBy is mid) said (passes heard.passed)) counts;
      })

  -- it faulted
  pub hears_struck : (came : Came) → HearsFault test between now last mid after Enter came → Hears test before now was last old after came
  hears_struck came struck = λ caller ordinal first heard. struck caller ordinal first (entered_heard caller ordinal first heard.heard) (not_logged mid ticket (counted mid.crossings Enter) inside)

-- an entering call that did not go in
not_in : (seat : SightSeat) (after : Attempt) (answer : Came) → ((ticket : Ticket) → answer ≡ came.Inside ticket → ⊥) → EnteredBy seat after answer → PassedBy seat after answer
not_in seat after (came.Answered answer) not entered = entered
not_in seat after (came.Inside ticket) not entered = absurd (not ticket refl)
not_in seat after came.On not entered = entered
not_in seat after came.Shut not entered = entered
not_in seat after came.Busy not entered = entered
not_in seat after came.NoMemory not entered = entered

pub hears_outside : (test : Option (Crossing → Bool)) (was is : SightSeat) (old after : Attempt) (answer : Came) (before now : ℕ) → ((ticket : Ticket) → answer ≡ came.Inside ticket → ⊥) → before ≤ now → after.crossings ≡ old.crossings
    → (HasPassed was.flight old → EnteredBy is after answer) → Hears test before now was is old after answer
hears_outside test was is old after answer before now not more same passes = hears_same test was is old after answer before now more same (λ passed. not_in is after answer not (passes passed))

-- ---- the call begins

none_met : (test : Option (Crossing → Bool)) (caller ordinal begun count : ℕ) → IfSome test (λ fires. min (count + firsts_met fires caller ordinal (new_attempt caller begun).crossings) (2 ^ 64 - 1) ≤ count)
none_met None caller ordinal begun count = tt
none_met (Some fires) caller ordinal begun count = omega arith

pub heard_begins : (test : Option (Crossing → Bool)) (caller begun count : ℕ) (seat : SightSeat) (attempt : Attempt) → attempt ≡ new_attempt caller begun → seat.flight ≡ None → IsHeard test caller (begun + 1) count count seat attempt
heard_begins test caller begun count seat attempt is free = subst (IsHeard test caller (begun + 1) count count seat) (sym is) (record {
  heard = record { caller_is = refl; ordinal_is = refl; later = omega arith; taken = none_met test caller (begun + 1) begun count };
  passed = λ has. absurd (subst FlightHasEntry free has);
})

-- the fault injector was asked at the present finish
pub finish_asked : (seat : SightSeat) (attempt : Attempt) (ticket : Ticket) → attempt.at ≡ at.Inside ticket → attempt.asked ≡ true → HasPassed seat.flight attempt → count_of attempt.crossings Finish ≢ 0
finish_asked seat attempt ticket inside asked passed =
    let was : IsPastEnter attempt = subst (HasPassedAt seat.flight attempt) inside passed in was.finishes asked
