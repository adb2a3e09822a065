-- A word without a blank is cut off at the blank behind it.
use Rattle.std.proofs.Common.{List, [], ◌∷◌, ◌++◌, ℕ, ◌+◌, ◌<◌, ◌≤◌, ◌^◌, ◌≡◌, ◌≢◌, length, take, drop, refl, ap, ◌∙◌, arith}
use Rattle.std.specs.Prelude.{All, decimal}
use Rattle.std.specs.List.{AllByRecursion, position_or_len}
use Rattle.std.specs.Char.{digit_value}
use Rattle.std.specs.Str.Parse.{AllDigits}
use Rattle.std.proofs.Math.Seq.{drop-append-add, take-append_seam}
use Rattle.std.proofs.lemmas.Bool.{ne_eqb}
use Rattle.std.proofs.lemmas.Fmt.{decimal_is_IsNumeral}
use Rattle.std.proofs.lemmas.List.Elements.{All-head, All-tail}
use Rattle.mb_jobs.specs.Words.{after_word, first_word, is_blank}
use Rattle.mb_call_texts.specs.CallText.{path_word}

-- no byte of a word is a blank
abbrev pub HasNoBlank : List ℕ → Type 0
HasNoBlank word = AllByRecursion (λ byte. byte ≢ 32) word

blank_place : (word rest : List ℕ) → HasNoBlank word → position_or_len is_blank (word ++ 32 ∷ rest) ≡ length word
blank_place [] rest none = refl
blank_place (byte ∷ more) rest none =
    let place = blank_place more rest none.1 in
    let other = ne_eqb byte 32 none.0 in
    rw other (omega (arith, place))

pub first_word-of : (word rest : List ℕ) → HasNoBlank word → first_word (word ++ 32 ∷ rest) ≡ word
first_word-of word rest none = ap (λ n. take n (word ++ 32 ∷ rest)) (blank_place word rest none) ∙ take-append_seam word (32 ∷ rest)

pub after_word-of : (word rest : List ℕ) → HasNoBlank word → after_word (word ++ 32 ∷ rest) ≡ rest
after_word-of word rest none = ap (λ n. drop (n + 1) (word ++ 32 ∷ rest)) (blank_place word rest none) ∙ drop-append-add word (32 ∷ rest) 1

digits_no_blank : (ds : List ℕ) → AllDigits 10 ds → HasNoBlank ds
digits_no_blank [] all = tt
digits_no_blank (digit ∷ more) all =
    (λ same. let value : digit_value 32 < 10 = rw same at all.0 in omega arith, digits_no_blank more all.1)

pub decimal_no_blank : (n : ℕ) → n < 2 ^ 64 → HasNoBlank (decimal n)
decimal_no_blank n fits = digits_no_blank (decimal n) (decimal_is_IsNumeral n fits).0.1

prints_no_blank : (path : List ℕ) → All (λ byte. (33 ≤ byte) × (byte ≤ 126)) path → HasNoBlank path
prints_no_blank [] all = tt
prints_no_blank (byte ∷ more) all =
    let first = All-head (λ byte. (33 ≤ byte) × (byte ≤ 126)) byte more all in
    (λ same. omega arith, prints_no_blank more (All-tail (λ byte. (33 ≤ byte) × (byte ≤ 126)) byte more all))

pub path_no_blank : (path : List ℕ) → All (λ byte. (33 ≤ byte) × (byte ≤ 126)) path → HasNoBlank (path_word path)
path_no_blank [] all = (λ same. omega arith, (λ same. omega arith, tt))
path_no_blank (byte ∷ more) all = prints_no_blank (byte ∷ more) all
