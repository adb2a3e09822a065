-- Whose first call an order begins when: what the characters of an order make of the callers.
use Rattle.std.specs.Prelude.{ℕ, ◌+◌, ◌<◌, ◌≤◌, ◌≡◌, ◌≢◌, List, map, length, true, false, Option, Some, slice_get}
use Rattle.std.specs.List.{AllByRecursion}
use Rattle.mb_jobs.specs.declared.jobs.Caller.{Caller}
use Rattle.mb_jobs.specs.declared.jobs.JobCall.{JobCall}
use Rattle.mb_run.specs.Firsts.{HasFirst}
use Rattle.mb_run.specs.Runs.{first_at, is_letter_of, letter_of}
use Rattle.mb_run.specs.Served.{calls_of}
use Rattle.mb_run.specs.Sights.{AreApart, Sight}

abbrev pub letters_of : List Caller → List ℕ
letters_of callers = map (λ (caller : Caller). caller.letter) callers

-- small letters (97 to 122), no two alike
pub record AreLetters (letters : List ℕ) : Type 0 where
  pub small : AllByRecursion (λ letter. (97 ≤ letter) × (letter ≤ 122)) letters
  pub apart : AreApart letters

-- no caller has that letter
abbrev pub LacksLetter : List Caller → ℕ → Type 0
LacksLetter callers letter = (place : ℕ) (caller : Caller) → slice_get callers place ≡ Some caller → caller.letter ≢ letter

abbrev pub HasCalls : List JobCall → ℕ → Type 0
HasCalls calls caller = 0 < length (calls_of calls caller)

-- a caller that has a call began one
abbrev pub HasBegun : List JobCall → ℕ → Sight → Type 0
HasBegun calls caller sight = HasCalls calls caller → (sight.seats caller).begun ≢ 0

-- nobody who had begun no call began one, but perhaps this caller
abbrev pub BeginsAlone : Option ℕ → Sight → Sight → Type 0
BeginsAlone caller old new = (other : ℕ) → caller ≢ Some other → (old.seats other).begun ≡ 0 → (new.seats other).begun ≡ 0

-- one character of an order: the caller with that letter began a call, and nobody else began a first one
pub record BeginsByLetter (letters : List ℕ) (calls : List JobCall) (character : ℕ) (old new : Sight) : Type 0 where
  pub mine : (caller letter : ℕ) → letter_of letters caller ≡ Some letter → is_letter_of letter character ≡ true → HasBegun calls caller new
  pub others : (caller letter : ℕ) → letter_of letters caller ≡ Some letter → is_letter_of letter character ≡ false → (old.seats caller).begun ≡ 0 → (new.seats caller).begun ≡ 0

-- after the characters that were seen: a caller whose letter stood there has begun, the others have not; of two callers, each with
-- a call, the one whose letter first stood before the other's has the lower first moment
pub record HasBegunBy (letters : List ℕ) (calls : List JobCall) (seen : List ℕ) (sight : Sight) : Type 0 where
  pub within : (caller moment : ℕ) → HasFirst sight caller moment → caller < sight.config.callers
  pub below : (caller moment : ℕ) → HasFirst sight caller moment → moment ≤ sight.config.start + sight.begun
  pub empty : (caller moment : ℕ) → HasFirst sight caller moment → (sight.seats caller).begun ≢ 0
  pub seen_is : (caller letter : ℕ) → letter_of letters caller ≡ Some letter → first_at seen letter < length seen → HasBegun calls caller sight
  pub later : (caller letter : ℕ) → letter_of letters caller ≡ Some letter → length seen ≤ first_at seen letter → (sight.seats caller).begun ≡ 0
  pub rises : (one other first second before after : ℕ) → HasCalls calls one → HasFirst sight one first → HasFirst sight other second
      → letter_of letters one ≡ Some before → letter_of letters other ≡ Some after → first_at seen before < first_at seen after → first < second
