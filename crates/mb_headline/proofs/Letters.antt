-- The letters of the callers that texts write: small ones, no two alike.
use Rattle.std.proofs.Common.{◌≡◌, ◌≢◌, List, [], ◌∷◌, ◌++◌, ℕ, ◌≤◌, Bool, true, false, cond, nat_eq, nat_le, Option, None, Some, Ok, refl, ap, sym, subst, ◌∙◌, arith}
use Rattle.std.specs.List.{AllByRecursion}
use Rattle.std.specs.Prelude.{◌&&◌}
use Rattle.std.proofs.lemmas.Bool.{and_parts, eqb-false, leb-true, or_parts}
use Rattle.std.proofs.lemmas.List.{map-append}
use Rattle.std.proofs.lemmas.Option.{same_Some}
use Rattle.mb_jobs.specs.declared.jobs.Caller.{Caller}
use Rattle.mb_jobs.specs.Callers.{caller_in, caller_of, has_letter, letter_in, new_caller, next_caller, the_caller}
use Rattle.mb_jobs.specs.Folds.{read_all}
use Rattle.mb_jobs.specs.Numbers.{short_in}
use Rattle.mb_jobs.specs.Words.{after_word, first_word}
use Rattle.mb_run.specs.Letters.{AreLetters, letters_of}
use Rattle.mb_run.specs.Sights.{AreApart}
use Rattle.mb_headline.proofs.Reading.{all_with, no_some, read_keeps, when_some}

abbrev IsSmall : ℕ → Type 0
IsSmall letter = (97 ≤ letter) × (letter ≤ 122)

-- ---- one caller

small_letter : (word : List ℕ) (letter : ℕ) → letter_in word ≡ Some letter → IsSmall letter
small_letter [] letter is = absurd (no_some letter is)
small_letter (written ∷ []) letter is =
    let test = when_some (nat_le 97 written && nat_le written 104) (Some written) letter is in
    let both = and_parts (nat_le 97 written) (nat_le written 104) test.0 in
    let least = leb-true 97 written both.0 in
    let most = leb-true written 104 both.1 in
    subst IsSmall (same_Some written letter test.1) (least, omega (arith, most))
small_letter (written ∷ second ∷ more) letter is = absurd (no_some letter is)

letter_found : (letter uid gid : Option ℕ) (caller : Caller) → caller_of letter uid gid ≡ Some caller → letter ≡ Some caller.letter
letter_found (Some letter) (Some uid) (Some gid) caller is = ap (λ (c : Caller). Some c.letter) (same_Some (record { letter = letter; cred = record { uid = uid; gid = gid } }) caller is)
letter_found (Some letter) (Some uid) None caller is = absurd (no_some caller is)
letter_found (Some letter) None gid caller is = absurd (no_some caller is)
letter_found None uid gid caller is = absurd (no_some caller is)

small_caller : (text : List ℕ) (caller : Caller) → caller_in text ≡ Some caller → IsSmall caller.letter
small_caller text caller is =
    small_letter (first_word text) caller.letter (letter_found (letter_in (first_word text)) (short_in (first_word (after_word text))) (short_in (after_word (after_word text))) caller is)

-- ---- a caller behind others

when_none : {A : Type 0} (b : Bool) (found : Option A) (x : A) → cond b None found ≡ Some x → (b ≡ false) × (found ≡ Some x)
when_none true found x is = absurd (no_some x is)
when_none false found x is = (refl, is)

new_found : (before : List Caller) (found : Option Caller) (caller : Caller) → new_caller before found ≡ Some caller → (has_letter before caller.letter ≡ false) × (found ≡ Some caller)
new_found before (Some other) caller is =
    let test = when_none (has_letter before other.letter) (Some other) caller is in
    (ap (λ (c : Caller). has_letter before c.letter) (sym (same_Some other caller test.1)) ∙ test.0, test.1)
new_found before None caller is = absurd (no_some caller is)

-- a letter that no caller has is none of theirs
letters_differ : (callers : List Caller) (letter : ℕ) → has_letter callers letter ≡ false → AllByRecursion (λ other. other ≢ letter) (letters_of callers)
letters_differ [] letter lacks = tt
letters_differ (caller ∷ callers) letter lacks =
    let parts = or_parts (nat_eq caller.letter letter) (has_letter callers letter) lacks in
    (eqb-false caller.letter letter parts.0, letters_differ callers letter parts.1)

apart_with : (numbers : List ℕ) (last : ℕ) → AreApart numbers → AllByRecursion (λ other. other ≢ last) numbers → AreApart (numbers ++ last ∷ [])
apart_with [] last apart differ = (tt, tt)
apart_with (one ∷ numbers) last apart differ = (all_with (λ other. one ≢ other) numbers (last ∷ []) apart.0 (differ.0, tt), apart_with numbers last apart.1 differ.1)

-- ---- all callers

abbrev HaveLetters : List Caller → Type 0
HaveLetters callers = AreLetters (letters_of callers)

letters_next : (before : List Caller) (text : List ℕ) (caller : Caller) → HaveLetters before → next_caller before text ≡ Some caller → HaveLetters (before ++ caller ∷ [])
letters_next before text caller letters is =
    let found = new_found before (caller_in text) caller is in
    let small = small_caller text caller found.1 in
    subst AreLetters (sym (map-append (λ (c : Caller). c.letter) before (caller ∷ []))) (record {
      small = all_with IsSmall (letters_of before) (caller.letter ∷ []) letters.small (small, tt);
      apart = apart_with (letters_of before) caller.letter letters.apart (letters_differ before caller.letter found.0);
    })

no_letters : HaveLetters []
no_letters = record { small = tt; apart = tt }

pub letters_read : (texts : List (List ℕ)) (callers : List Caller) → read_all next_caller [] texts ≡ Ok callers → AreLetters (letters_of callers)
letters_read texts callers is = read_keeps next_caller HaveLetters letters_next [] texts callers no_letters is

-- the caller of a job that names none
pub the_letter : AreLetters (letters_of (the_caller ∷ []))
the_letter = record { small = ((omega arith, omega arith), tt); apart = (tt, tt) }
