-- Which callers have begun a call, step by step.
use Rattle.std.proofs.Common.{◌≡◌, ◌≢◌, ◌⊎◌, List, [], ◌∷◌, ℕ, zero, suc, ◌+◌, ◌<◌, ◌≤◌, Bool, true, false, nat_eq, ◌||◌, inl, inr, refl, ap, sym, subst, ◌∙◌, arith, Option, None, Some, length, get_or, slice_get}
use Rattle.std.proofs.lemmas.Bool.{eqb-true, eq-eqb}
use Rattle.std.proofs.lemmas.Bool.Decides.{nat_tests}
use Rattle.std.proofs.lemmas.Option.{same_Some, slice_get-get_or, slice_get_past, slice_get_within}
use Rattle.std.specs.List.{AllByRecursion}
use Rattle.std.specs.Char.{to_ascii_lowercase}
use Rattle.mb_edge.specs.declared.crossings.Crossing.{Crossing}
use Rattle.mb_jobs.specs.declared.jobs.Caller.{Caller}
use Rattle.mb_jobs.specs.declared.jobs.JobCall.{JobCall}
use Rattle.mb_kinds.specs.declared.calls.Call.{Call}
use Rattle.mb_kinds.specs.declared.entries.Flight.{Flight}
use Rattle.mb_kinds.specs.declared.faults.Ticket.{Ticket}
use Rattle.mb_run.specs.Firsts.{KeepsFirsts}
use Rattle.mb_run.specs.Letters.{AreLetters, BeginsAlone, BeginsByLetter, HasBegun, LacksLetter, letters_of}
use Rattle.mb_run.specs.Orders.{HasLetter, HasCallOpen, IsQuiet, MovesCall}
use Rattle.mb_run.specs.Runs.{is_letter_of, letter_of}
use Rattle.mb_run.specs.Served.{ActsAlone, Did, IsAtBy, IsServedSoFar, IsStanding, MayStep, Rolled, AllUnderWay, calls_in, calls_of}
use Rattle.mb_run.specs.Sights.{AreApart, SightSeat, Sight}
use Rattle.mb_run.specs.declared.progress.Went.{Went}
use Rattle.mb_run.specs.declared.progress.Went.TheVariants as went
use Rattle.mb_run.specs.declared.runner.At.{At}
use Rattle.mb_run.specs.declared.runner.At.TheVariants as at
use Rattle.mb_run.specs.declared.runner.Runner.{Runner}
use Rattle.mb_run.proofs.Counting.{same_or_not}
use Rattle.mb_run.proofs.Everybody.{got}
use Rattle.mb_run.proofs.Going.{IsTurning}
use Rattle.mb_run.proofs.RunningOut.{past_end}

-- ---- one caller

pub kept_begun : (old new : Sight) (caller : ℕ) → KeepsFirsts old new → (old.seats caller).begun ≢ 0 → (new.seats caller).begun ≢ 0
kept_begun old new caller keeps some nil = some (keeps.none caller nil)

-- a call in flight was begun
flight_begun : (list made : List Call) (done begun : ℕ) (held : Option Flight) (flight : Flight) → held ≡ Some flight → IsAtBy list made done begun held → begun ≢ 0
flight_begun list made done begun held flight here at nil = (let is = (subst (IsAtBy list made done begun) here at).0 in omega (arith, is, nil))

ends_begun : (list made : List Call) (done begun : ℕ) (held : Option Flight) → held ≡ None → done ≢ 0 → IsAtBy list made done begun held → begun ≢ 0
ends_begun list made done begun held none some at nil = some (sym (subst (IsAtBy list made done begun) none at).0 ∙ nil)

-- a call inside was begun
stands_begun : (sight : Sight) (list : List Call) (caller : ℕ) (runner : Runner) (a : At) → IsServedSoFar list sight caller runner → IsStanding sight caller runner.pages a → (a ≡ at.Outside) ⊎ ((sight.seats caller).begun ≢ 0)
stands_begun sight list caller runner at.Outside served stands = inl refl
stands_begun sight list caller runner (at.Inside ticket) served stands = inr (flight_begun list (calls_in sight.history caller) runner.done (sight.seats caller).begun (sight.seats caller).flight stands.0.flight stands.0.here served.calls)
stands_begun sight list caller runner (at.Logged ticket) served stands = inr (flight_begun list (calls_in sight.history caller) runner.done (sight.seats caller).begun (sight.seats caller).flight stands.0.flight stands.0.here served.calls)

pub outside_or_begun : (calls : List JobCall) (test : Option (Crossing → Bool)) (sight : Sight) (runner : Runner) (call : Call) → MayStep calls test sight runner call → (runner.at ≡ at.Outside) ⊎ ((sight.seats runner.crossings.caller).begun ≢ 0)
outside_or_begun calls test sight runner call may = stands_begun sight (calls_of calls runner.crossings.caller) runner.crossings.caller runner runner.at may.served may.served.stands

never_inside : (ticket : Ticket) → at.Inside ticket ≡ at.Outside → ⊥
never_inside ticket same = cc

never_logged : (ticket : Ticket) → at.Logged ticket ≡ at.Outside → ⊥
never_logged ticket same = cc

pub inside_begun : (calls : List JobCall) (test : Option (Crossing → Bool)) (sight : Sight) (runner : Runner) (call : Call) (ticket : Ticket) → MayStep calls test sight runner call → runner.at ≡ at.Inside ticket → (sight.seats runner.crossings.caller).begun ≢ 0
inside_begun calls test sight runner call ticket may inside = elim (outside_or_begun calls test sight runner call may) [ inl out ↦ absurd (never_inside ticket (sym inside ∙ out)) | inr begun ↦ begun ]

pub logged_begun : (calls : List JobCall) (test : Option (Crossing → Bool)) (sight : Sight) (runner : Runner) (call : Call) (ticket : Ticket) → MayStep calls test sight runner call → runner.at ≡ at.Logged ticket → (sight.seats runner.crossings.caller).begun ≢ 0
logged_begun calls test sight runner call ticket may logged = elim (outside_or_begun calls test sight runner call may) [ inl out ↦ absurd (never_logged ticket (sym logged ∙ out)) | inr begun ↦ begun ]

pub ended_begun : (calls : List JobCall) (test : Option (Crossing → Bool)) (old new : Sight) (before now : Runner) → Did calls test old new before now went.Ended → (new.seats before.crossings.caller).begun ≢ 0
ended_begun calls test old new before now did =
    ends_begun (calls_of calls before.crossings.caller) (calls_in new.history before.crossings.caller) now.done (new.seats before.crossings.caller).begun (new.seats before.crossings.caller).flight did.goes.1 (λ nil. omega (arith, nil, did.goes.0)) did.nears.served.calls

pub shut_begun : (calls : List JobCall) (test : Option (Crossing → Bool)) (old new : Sight) (before now : Runner) → Did calls test old new before now went.Shut → (new.seats before.crossings.caller).begun ≢ 0
shut_begun calls test old new before now did =
    flight_begun (calls_of calls before.crossings.caller) (calls_in new.history before.crossings.caller) now.done (new.seats before.crossings.caller).begun (new.seats before.crossings.caller).flight did.goes.4.0 did.goes.4.1 did.nears.served.calls

-- after turns, told of the caller as it was at first
pub turned_begun : (calls : List JobCall) (test : Option (Crossing → Bool)) (old mid new : Sight) (before m : Runner) (call : Call) → IsTurning calls test old mid before m call → (new.seats m.crossings.caller).begun ≢ 0 → (new.seats before.crossings.caller).begun ≢ 0
turned_begun calls test old mid new before m call turning some = subst (λ caller. (new.seats caller).begun ≢ 0) turning.nears.same some

pub begun_late : (sight : Sight) (runner : Runner) (caller : ℕ) → runner.at ≢ at.Outside → (runner.at ≡ at.Outside) ⊎ ((sight.seats caller).begun ≢ 0) → (sight.seats caller).begun ≢ 0
begun_late sight runner caller inside either = elim either [ inl out ↦ absurd (inside out) | inr begun ↦ begun ]

pub ended_goes : went.Ended ≢ went.NoMemory
ended_goes same = cc

pub on_goes : went.On ≢ went.NoMemory
on_goes same = cc

pub back_goes : went.Back ≢ went.NoMemory
back_goes same = cc

pub shut_goes : went.Shut ≢ went.NoMemory
shut_goes same = cc

pub busy_goes : (holder : Ticket) → went.Busy holder ≢ went.NoMemory
busy_goes holder same = cc

-- ---- among all callers

-- a caller whose list is done has begun, where it has a call
pub past_begun : (calls : List JobCall) (test : Option (Crossing → Bool)) (sight : Sight) (runners : List Runner) (caller : ℕ) (x : Runner) → AllUnderWay calls test sight runners → caller < length runners
    → slice_get (calls_of calls caller) (get_or runners caller x).done ≡ None → HasBegun calls caller sight
past_begun calls test sight runners caller x underway low none called nil =
    let served = underway.served caller (get_or runners caller x) (got runners caller x low) in
    let past = past_end (calls_of calls caller) (get_or runners caller x).done none in
    done_begun (calls_of calls caller) (calls_in sight.history caller) (get_or runners caller x).done (sight.seats caller).begun (sight.seats caller).flight (λ none_done. omega (arith, none_done, past, called)) served.calls nil where
      done_begun : (list made : List Call) (done begun : ℕ) (held : Option Flight) → done ≢ 0 → IsAtBy list made done begun held → begun ≢ 0
      done_begun list made done begun None some at nil = some (sym at.0 ∙ nil)
      done_begun list made done begun (Some flight) some at nil = (let is = at.0 in omega (arith, is, nil))

-- steps of one caller
pub acts_alone : (caller : ℕ) (old new : Sight) → ActsAlone caller old new → BeginsAlone (Some caller) old new
acts_alone caller old new acts other apart nil = ap (λ (s : SightSeat). s.begun) (acts.seats other (λ same. apart (ap Some (sym same)))) ∙ nil

-- of the caller at a place of the list
pub letter_begun : (calls : List JobCall) (test : Option (Crossing → Bool)) (old new : Sight) (runners : List Runner) (caller : ℕ) (d now : Runner) → AllUnderWay calls test old runners → caller < length runners
    → MovesCall calls test old new (get_or runners caller d) now → (new.seats (get_or runners caller d).crossings.caller).begun ≢ 0 → HasBegun calls caller new
letter_begun calls test old new runners caller d now underway low moves some called =
    subst (λ n. (new.seats n).begun ≢ 0) (underway.served caller (get_or runners caller d) (got runners caller d low)).caller_is some

pub letter_acts : (calls : List JobCall) (test : Option (Crossing → Bool)) (old new : Sight) (runners : List Runner) (caller : ℕ) (d now : Runner) → AllUnderWay calls test old runners → caller < length runners
    → MovesCall calls test old new (get_or runners caller d) now → BeginsAlone (Some caller) old new
letter_acts calls test old new runners caller d now underway low moves =
    subst (λ n. BeginsAlone (Some n) old new) (underway.served caller (get_or runners caller d) (got runners caller d low)).caller_is (acts_alone (get_or runners caller d).crossings.caller old new moves.nears.acts)

pub quiet_alone : (old new : Sight) → IsQuiet old new → BeginsAlone None old new
quiet_alone old new quiet other apart nil = ap (λ (s : SightSeat). s.begun) (quiet.seats other) ∙ nil

-- steps of a caller that had begun
pub open_alone : (sight new : Sight) (runners : List Runner) (caller : ℕ) → HasCallOpen sight runners caller → ActsAlone caller sight new → BeginsAlone None sight new
open_alone sight new runners caller open_at acts other apart nil = elim (same_or_not other caller) [
  | inl same ↦ (let is : (sight.seats caller).begun ≡ 0 = ap (λ n. (sight.seats n).begun) (sym same) ∙ nil in absurd (omega (arith, is, open_at.more)))
  | inr other_one ↦ ap (λ (s : SightSeat). s.begun) (acts.seats other other_one) ∙ nil
]

pub open_rolls : (calls : List JobCall) (test : Option (Crossing → Bool)) (old new : Sight) (runners : List Runner) (caller : ℕ) (d now : Runner) (came : Went) → AllUnderWay calls test old runners → HasCallOpen old runners caller
    → Rolled calls test old new (get_or runners caller d) now came → BeginsAlone None old new
open_rolls calls test old new runners caller d now came underway open_at rolled =
    let low : caller < length runners = slice_get_within runners caller open_at.runner open_at.here in
    let own = (underway.served caller (get_or runners caller d) (got runners caller d low)).caller_is in
    open_alone old new runners caller open_at (subst (λ n. ActsAlone n old new) own rolled.nears.acts)

-- ---- the caller of a letter

pub same_alone : (s : Sight) → BeginsAlone None s s
same_alone s other apart nil = nil

never_caller : (caller : Caller) → None ≡ Some caller → ⊥
never_caller caller same = cc

never_letter : (letter : ℕ) → None ≡ Some letter → ⊥
never_letter letter same = cc

pub lettered_at : (callers : List Caller) (place letter : ℕ) → letter_of (letters_of callers) place ≡ Some letter → (caller : Caller) × (slice_get callers place ≡ Some caller) × (caller.letter ≡ letter)
lettered_at [] place letter here = absurd (never_letter letter (sym (slice_get_past (letters_of []) place (omega arith)) ∙ here))
lettered_at (first ∷ callers) zero letter here = (first, refl, same_Some first.letter letter here)
lettered_at (first ∷ callers) (suc place) letter here = lettered_at callers place letter here

pub letter_here : (callers : List Caller) (place : ℕ) (caller : Caller) → slice_get callers place ≡ Some caller → letter_of (letters_of callers) place ≡ Some caller.letter
letter_here [] place caller here = absurd (never_caller caller (sym (slice_get_past [] place (omega arith)) ∙ here))
letter_here (first ∷ callers) zero caller here = ap (λ (c : Caller). Some c.letter) (same_Some first caller here)
letter_here (first ∷ callers) (suc place) caller here = letter_here callers place caller here

pub all_at : (P : ℕ → Type 0) (xs : List ℕ) (place x : ℕ) → AllByRecursion P xs → slice_get xs place ≡ Some x → P x
all_at P [] place x all here = absurd (never_letter x (sym (slice_get_past [] place (omega arith)) ∙ here))
all_at P (first ∷ xs) zero x all here = subst P (same_Some first x here) all.0
all_at P (first ∷ xs) (suc place) x all here = all_at P xs place x all.1 here

pub one_place : (xs : List ℕ) (place other x : ℕ) → AreApart xs → slice_get xs place ≡ Some x → slice_get xs other ≡ Some x → place ≡ other
one_place [] place other x apart here there = absurd (never_letter x (sym (slice_get_past [] place (omega arith)) ∙ here))
one_place (first ∷ xs) zero zero x apart here there = refl
one_place (first ∷ xs) zero (suc other) x apart here there = absurd (all_at (λ (y : ℕ). first ≢ y) xs other x apart.0 there (same_Some first x here))
one_place (first ∷ xs) (suc place) zero x apart here there = absurd (all_at (λ (y : ℕ). first ≢ y) xs place x apart.0 here (same_Some first x there))
one_place (first ∷ xs) (suc place) (suc other) x apart here there = ap suc (one_place xs place other x apart.1 here there)

no_both : true ≡ false → ⊥
no_both same = cc

-- a small letter, as it stands or as its capital
pub letter_or : (letter character : ℕ) → is_letter_of letter character ≡ true → (character ≡ letter) ⊎ (character + 32 ≡ letter)
letter_or letter character is = by_first (nat_eq character letter) (nat_eq (character + 32) letter) refl refl is where
  by_first : (one other : Bool) → nat_eq character letter ≡ one → nat_eq (character + 32) letter ≡ other → (one || other) ≡ true → (character ≡ letter) ⊎ (character + 32 ≡ letter)
  by_first true other same there is = inl (eqb-true character letter same)
  by_first false true apart same is = inr (eqb-true (character + 32) letter same)
  by_first false false apart there is = absurd (no_both (sym is))

pub letter_yes : (letter character : ℕ) → (character ≡ letter) ⊎ (character + 32 ≡ letter) → is_letter_of letter character ≡ true
letter_yes letter character is = elim is [
  | inl same ↦ rw (eq-eqb character letter same) refl
  | inr capital ↦ by_first (nat_eq character letter) capital
] where
  by_first : (one : Bool) → character + 32 ≡ letter → (one || nat_eq (character + 32) letter) ≡ true
  by_first true capital = refl
  by_first false capital = eq-eqb (character + 32) letter capital

pub lower_is : (letter character : ℕ) → 97 ≤ letter → letter ≤ 122 → is_letter_of letter character ≡ true → to_ascii_lowercase character ≡ letter
lower_is letter character low high is = elim (letter_or letter character is) [
  | inl same ↦ (let here : 91 ≤ character = omega arith in grind (arith, nat_tests, same, here))
  | inr capital ↦ grind (arith, nat_tests, capital)
]

pub lower_from : (letter character : ℕ) → 97 ≤ letter → letter ≤ 122 → to_ascii_lowercase character ≡ letter → (character ≡ letter) ⊎ (character + 32 ≡ letter)
lower_from letter character low high is = grind (arith, nat_tests, is)

-- a blank, `*`, `=` and `>` are no letters
pub no_letter_is : (character n : ℕ) → character ≡ n → n < 65 → (letter : ℕ) → 97 ≤ letter → letter ≤ 122 → (character ≡ letter) ⊎ (character + 32 ≡ letter) → ⊥
no_letter_is character n is few letter low high either = elim either [ inl same ↦ omega (arith, is, few, low, same) | inr capital ↦ omega (arith, is, few, low, capital) ]

module _ (callers : List Caller) (calls : List JobCall) (old new : Sight) (letters : AreLetters (letters_of callers)) where
  small_at : (caller letter : ℕ) → letter_of (letters_of callers) caller ≡ Some letter → (97 ≤ letter) × (letter ≤ 122)
  small_at caller letter has = all_at (λ (n : ℕ). (97 ≤ n) × (n ≤ 122)) (letters_of callers) caller letter letters.small has

  -- a character that is no letter
  pub no_letter_begins : (character : ℕ) → ((letter : ℕ) → 97 ≤ letter → letter ≤ 122 → (character ≡ letter) ⊎ (character + 32 ≡ letter) → ⊥) → BeginsAlone None old new → BeginsByLetter (letters_of callers) calls character old new
  no_letter_begins character other alone = record {
    mine = λ caller letter has is. (let small = small_at caller letter has in absurd (other letter small.0 small.1 (letter_or letter character is)));
    others = λ caller letter has is. alone caller (λ same. never_letter caller same);
  }

  -- a letter that no caller has
  pub lacked_begins : (character : ℕ) → LacksLetter callers (to_ascii_lowercase character) → new ≡ old → BeginsByLetter (letters_of callers) calls character old new
  lacked_begins character lacks same = record {
    mine = λ caller letter has is. (let small = small_at caller letter has in let found = lettered_at callers caller letter has in
        absurd (lacks caller found.0 found.1 (found.2 ∙ sym (lower_is letter character small.0 small.1 is))));
    others = λ caller letter has is nil. ap (λ (s : Sight). (s.seats caller).begun) same ∙ nil;
  }

  -- a letter of a caller
  pub letter_begins : (character place : ℕ) → HasLetter callers (to_ascii_lowercase character) place → HasBegun calls place new → BeginsAlone (Some place) old new → BeginsByLetter (letters_of callers) calls character old new
  letter_begins character place found begun alone = record {
    mine = λ caller letter has is. (let small = small_at caller letter has in
        let there : letter_of (letters_of callers) place ≡ Some letter = letter_here callers place found.caller found.here ∙ ap Some (found.is ∙ lower_is letter character small.0 small.1 is) in
        subst (λ n. HasBegun calls n new) (one_place (letters_of callers) place caller letter letters.apart there has) begun);
    others = λ caller letter has is. (let small = small_at caller letter has in
        alone caller (λ same. (let at_it : place ≡ caller = same_Some place caller same in
        let there = letter_here callers place found.caller found.here in
        let here : found.caller.letter ≡ letter = same_Some found.caller.letter letter (sym there ∙ ap (letter_of (letters_of callers)) at_it ∙ has) in
        no_both (sym (letter_yes letter character (lower_from letter character small.0 small.1 (sym found.is ∙ here))) ∙ is))));
  }

-- one caller more that has another letter
pub lacks_more : (callers : List Caller) (letter index : ℕ) (d : Caller) → index < length callers → (get_or callers index d).letter ≢ letter
    → ((place : ℕ) (caller : Caller) → place < index → slice_get callers place ≡ Some caller → caller.letter ≢ letter) → (place : ℕ) (caller : Caller) → place < index + 1 → slice_get callers place ≡ Some caller → caller.letter ≢ letter
lacks_more callers letter index d within other before place caller low here = elim (same_or_not place index) [
  | inl same ↦ (let is : get_or callers index d ≡ caller = same_Some (get_or callers index d) caller (sym (slice_get-get_or callers index d within) ∙ ap (slice_get callers) (sym same) ∙ here) in
      λ has. other (ap (λ (c : Caller). c.letter) is ∙ has))
  | inr apart ↦ before place caller (omega (arith, low, apart)) here
]
