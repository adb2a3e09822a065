-- What the fields of a job's table keep within.
use Rattle.std.proofs.Common.{◌≡◌, List, [], ◌∷◌, ℕ, ◌≤◌, nat_le, Option, None, Some, Result, Ok, Err, length, refl, subst, arith}
use Rattle.std.specs.Prelude.{pos, codes, ◌&&◌, option_and_then}
use Rattle.std.proofs.lemmas.Bool.{and_parts, leb-true}
use Rattle.std.proofs.lemmas.Option.{same_Some}
use Rattle.toml.specs.Data.{Data, integer, Members, get_member}
use Rattle.mb_jobs.specs.declared.jobs.Caller.{Caller}
use Rattle.mb_jobs.specs.Callers.{callers_in, next_caller, the_caller}
use Rattle.mb_jobs.specs.Folds.{read_all}
use Rattle.mb_jobs.specs.Keys.{KeyFields, fields_in, given, known_beside, known_fields, needs, or_unknown, some_callers, some_faults, some_order, texts_in, unknown_key, whole_from}
use Rattle.mb_run.specs.Letters.{AreLetters, letters_of}
use Rattle.mb_headline.proofs.Letters.{letters_read, the_letter}
use Rattle.mb_headline.proofs.Reading.{and_then_some, needs_then, no_ok, no_some, ok_some, read_length, same_ok, when_some}

-- one to eight callers, with letters of their own
pub record AreCallers (callers : List Caller) : Type 0 where
  pub some : 1 ≤ length callers
  pub few : length callers ≤ 8
  pub letters : AreLetters (letters_of callers)

-- such callers, and each number in its range
pub record AreFit (fields : KeyFields) : Type 0 where
  pub callers : AreCallers fields.callers
  pub limit : fields.limit ≤ 255
  pub start : fields.start ≤ 1000000000
  pub due : 1 ≤ fields.threshold
  pub often : fields.threshold ≤ 4096

given_has : {A : Type 0} (P : A → Type 0) (missing : A) (read : Data → Option A) (found : Option Data) (x : A) → P missing → ((value : Data) (y : A) → read value ≡ Some y → P y)
    → given missing read found ≡ Some x → P x
given_has P missing read (Some value) x base step is = step value x is
given_has P missing read None x base step is = subst P (same_Some missing x is) base

abbrev IsWithin : ℕ → ℕ → ℕ → Type 0
IsWithin least most n = (least ≤ n) × (n ≤ most)

whole_has : (least most : ℕ) (value : Data) (n : ℕ) → whole_from least most value ≡ Some n → IsWithin least most n
whole_has least most (integer (pos number)) n is =
    let test = when_some (nat_le least number && nat_le number most) (Some number) n is in
    let both = and_parts (nat_le least number) (nat_le number most) test.0 in
    subst (IsWithin least most) (same_Some number n test.1) (leb-true least number both.0, leb-true number most both.1)
whole_has least most value n is = absurd (no_some n is)

callers_have : (texts : List (List ℕ)) (callers : List Caller) → callers_in texts ≡ Some callers → AreCallers callers
callers_have texts callers is =
    let test = when_some (nat_le 1 (length texts) && nat_le (length texts) 8) _ callers is in
    let both = and_parts (nat_le 1 (length texts)) (nat_le (length texts) 8) test.0 in
    let some : 1 ≤ length texts = leb-true 1 (length texts) both.0 in
    let few : length texts ≤ 8 = leb-true (length texts) 8 both.1 in
    let all = ok_some (read_all next_caller [] texts) callers test.1 in
    let same = read_length next_caller [] texts callers all in
    record { some = omega (arith, some, same); few = omega (arith, few, same); letters = letters_read texts callers all }

the_caller_has : AreCallers (the_caller ∷ [])
the_caller_has = record { some = omega arith; few = omega arith; letters = the_letter }

some_have : (value : Data) (callers : List Caller) → some_callers value ≡ Some callers → AreCallers callers
some_have value callers is = let parts = and_then_some callers_in (texts_in value) callers is in callers_have parts.0 callers parts.2

found_fit : (callers : List Caller) (limit start threshold : ℕ) (members : Members)
    → given (the_caller ∷ []) some_callers (get_member (codes "callers") members) ≡ Some callers
    → given 255 (whole_from 0 255) (get_member (codes "limit") members) ≡ Some limit
    → given 0 (whole_from 0 1000000000) (get_member (codes "start") members) ≡ Some start
    → given 64 (whole_from 1 4096) (get_member (codes "threshold") members) ≡ Some threshold
    → AreCallers callers × IsWithin 0 255 limit × IsWithin 0 1000000000 start × IsWithin 1 4096 threshold
found_fit callers limit start threshold members some low early often = (
  given_has AreCallers (the_caller ∷ []) some_callers (get_member (codes "callers") members) callers the_caller_has some_have some,
  given_has (IsWithin 0 255) 255 (whole_from 0 255) (get_member (codes "limit") members) limit (omega arith, omega arith) (whole_has 0 255) low,
  given_has (IsWithin 0 1000000000) 0 (whole_from 0 1000000000) (get_member (codes "start") members) start (omega arith, omega arith) (whole_has 0 1000000000) early,
  given_has (IsWithin 1 4096) 64 (whole_from 1 4096) (get_member (codes "threshold") members) threshold (omega arith, omega arith) (whole_has 1 4096) often,
)

-- what comes after each key
abbrev after_start : Members → List Caller → List (List ℕ) → List (List ℕ) → ℕ → Option (List ℕ) → ℕ → Result KeyFields (List ℕ)
after_start members callers texts faults limit order start = needs (codes "threshold") (given 64 (whole_from 1 4096) (get_member (codes "threshold") members))
    (λ threshold. Ok (record { callers = callers; calls = texts; faults = faults; limit = limit; order = order; start = start; threshold = threshold }))

abbrev after_order : Members → List Caller → List (List ℕ) → List (List ℕ) → ℕ → Option (List ℕ) → Result KeyFields (List ℕ)
after_order members callers texts faults limit order = needs (codes "start") (given 0 (whole_from 0 1000000000) (get_member (codes "start") members)) (after_start members callers texts faults limit order)

abbrev after_limit : Members → List Caller → List (List ℕ) → List (List ℕ) → ℕ → Result KeyFields (List ℕ)
after_limit members callers texts faults limit = needs (codes "order") (given None some_order (get_member (codes "order") members)) (after_order members callers texts faults limit)

abbrev after_faults : Members → List Caller → List (List ℕ) → List (List ℕ) → Result KeyFields (List ℕ)
after_faults members callers texts faults = needs (codes "limit") (given 255 (whole_from 0 255) (get_member (codes "limit") members)) (after_limit members callers texts faults)

abbrev after_calls : Members → List Caller → List (List ℕ) → Result KeyFields (List ℕ)
after_calls members callers texts = needs (codes "faults") (given [] some_faults (get_member (codes "faults") members)) (after_faults members callers texts)

abbrev after_callers : Option Data → Members → List Caller → Result KeyFields (List ℕ)
after_callers calls members callers = needs (codes "calls") (option_and_then texts_in calls) (after_calls members callers)

known_fit : (calls : Option Data) (members : Members) (fields : KeyFields) → known_beside calls members ≡ Ok fields → AreFit fields
known_fit calls members fields is =
    needs_then _ _ (after_callers calls members) fields (AreFit fields) is (λ callers some called.
    needs_then _ _ (after_calls members callers) fields (AreFit fields) called (λ texts written struck.
    needs_then _ _ (after_faults members callers texts) fields (AreFit fields) struck (λ faults fault limited.
    needs_then _ _ (after_limit members callers texts faults) fields (AreFit fields) limited (λ limit low ordered.
    needs_then _ _ (after_order members callers texts faults limit) fields (AreFit fields) ordered (λ order told started.
    needs_then _ _ (after_start members callers texts faults limit order) fields (AreFit fields) started (λ start early due.
    needs_then _ _ _ fields (AreFit fields) due (λ threshold often made.
    (let found : KeyFields = record { callers = callers; calls = texts; faults = faults; limit = limit; order = order; start = start; threshold = threshold } in
    let fit = found_fit callers limit start threshold members some low early often in
    subst AreFit (same_ok (Ok found) found fields refl made) (record { callers = fit.0; limit = fit.1.1; start = fit.2.1; due = fit.3.0; often = fit.3.1 })))))))))

known_of : (unknown : Option (List ℕ)) (found : Result KeyFields (List ℕ)) (fields : KeyFields) → or_unknown unknown found ≡ Ok fields → found ≡ Ok fields
known_of None found fields is = is
known_of (Some key) (Ok other) fields is = absurd (no_ok fields key is)
known_of (Some key) (Err bad) fields is = absurd (no_ok fields _ is)

pub fields_fit : (members : Members) (fields : KeyFields) → fields_in members ≡ Ok fields → AreFit fields
fields_fit members fields is = known_fit (get_member (codes "calls") members) members fields (known_of (unknown_key members) (known_fields members) fields is)
