-- Each call of a generated job is what is read of its text.
use Rattle.std.proofs.Common.{List, [], ◌∷◌, ◌++◌, ℕ, pos, ◌<◌, ◌≤◌, ◌≡◌, codes, get_or, Option, Some, refl, ap, ◌∙◌, append_assoc, arith}
use Rattle.std.specs.Prelude.{decimal}
use Rattle.std.specs.List.{AllByRecursion}
use Rattle.std.specs.Str.Parse.{AllDigits}
use Rattle.std.proofs.lemmas.Fmt.{decimal_is_IsNumeral, length-decimal-le_succ}
use Rattle.std.proofs.lemmas.Int.{ints}
use Rattle.std.proofs.lemmas.List.Elements.{All-from_recursion}
use Rattle.std.proofs.lemmas.Str.Parse.{digit_from_value}
use Rattle.mb_kinds.specs.declared.calls.Call.{Call}
use Rattle.mb_kinds.specs.declared.calls.Call.TheVariants.{Open, Creat, Close, Read, Lseek, Unlink, Stat}
use Rattle.mb_kinds.specs.declared.calls.How.TheVariants.{Both}
use Rattle.mb_kinds.specs.declared.calls.Whence.TheVariants.{Start}
use Rattle.mb_jobs.specs.Calls.{after_two, fills, one, second_word, three, two}
use Rattle.mb_jobs.specs.Numbers.{number_below, octal_in, offset_in, short_in}
use Rattle.mb_jobs.specs.Paths.{how_in, path_in, whence_in}
use Rattle.mb_jobs.specs.Words.{after_word, first_word}
use Rattle.mb_call_texts.specs.Writable.{CanBePath}
use Rattle.mb_call_texts.proofs.Arguments.{path_in-word}
use Rattle.mb_call_texts.proofs.Blanks.{HasNoBlank, after_word-of, decimal_no_blank, first_word-of, path_no_blank}
use Rattle.mb_call_texts.proofs.Numerals.{number_below-decimal, offset_in-decimal}
use Rattle.mb_gen.specs.Calls.{close_call, creat_call, fd_of, fill_call, lseek_call, name_of, open_call, read_call, stat_call, unlink_call}
use Rattle.mb_gen.specs.Laws.{IsReadOfText}

-- two words and three, each read as an argument
read_two : {A B : Type 0} (make : A → B → Call) (p : List ℕ → Option A) (q : List ℕ → Option B) (first second : List ℕ) (x : A) (y : B) → HasNoBlank first → p first ≡ Some x → q second ≡ Some y
    → (line : List ℕ) → line ≡ first ++ 32 ∷ second → two make (p (first_word line)) (q (after_word line)) ≡ Some (make x y)
read_two make p q first second x y none px qy line whole =
    let a : p (first_word line) ≡ Some x = ap (λ l. p (first_word l)) whole ∙ ap p (first_word-of first second none) ∙ px in
    let b : q (after_word line) ≡ Some y = ap (λ l. q (after_word l)) whole ∙ ap q (after_word-of first second none) ∙ qy in
    rw (a, b)

read_three : {A B C : Type 0} (make : A → B → C → Call) (p : List ℕ → Option A) (q : List ℕ → Option B) (r : List ℕ → Option C) (first second third : List ℕ) (x : A) (y : B) (z : C)
    → HasNoBlank first → HasNoBlank second → p first ≡ Some x → q second ≡ Some y → r third ≡ Some z → (line : List ℕ) → line ≡ first ++ 32 ∷ (second ++ 32 ∷ third)
    → three make (p (first_word line)) (q (second_word line)) (r (after_two line)) ≡ Some (make x y z)
read_three make p q r first second third x y z none none2 px qy rz line whole =
    let after : after_word line ≡ second ++ 32 ∷ third = ap after_word whole ∙ after_word-of first (second ++ 32 ∷ third) none in
    let a : p (first_word line) ≡ Some x = ap (λ l. p (first_word l)) whole ∙ ap p (first_word-of first (second ++ 32 ∷ third) none) ∙ px in
    let b : q (second_word line) ≡ Some y = ap (λ l. q (first_word l)) after ∙ ap q (first_word-of second third none2) ∙ qy in
    let c : r (after_two line) ≡ Some z = ap (λ l. r (after_word l)) after ∙ ap r (after_word-of second third none2) ∙ rz in
    rw (a, b, c)

-- ---- words

short_is : (n : ℕ) → n < 65536 → short_in (decimal n) ≡ Some n
short_is n small = number_below-decimal 65536 n small (omega arith)

short_no_blank : (n : ℕ) → n < 65536 → HasNoBlank (decimal n)
short_no_blank n small = decimal_no_blank n (omega arith)

digits_print : (ds : List ℕ) → AllDigits 10 ds → AllByRecursion (λ byte. (33 ≤ byte) × (byte ≤ 126)) ds
digits_print [] all = tt
digits_print (digit ∷ more) all = (let range = digit_from_value digit all.0 in (omega (arith, range), omega (arith, range)), digits_print more all.1)

name_can : (number : ℕ) → number < 16 → CanBePath (name_of number)
name_can number small = record {
  short = (let few = length-decimal-le_succ number (omega arith) in omega (arith, few));
  prints = All-from_recursion (λ byte. (33 ≤ byte) × (byte ≤ 126)) (name_of number)
      ((omega arith, omega arith), ((omega arith, omega arith), digits_print (decimal number) (decimal_is_IsNumeral number (omega arith)).0.1));
  plain = λ same. let first = ap (λ l. get_or l 0 0) same in omega (arith, first);
}

name_is : (number : ℕ) → number < 16 → path_in (name_of number) ≡ Some (name_of number)
name_is number small = path_in-word (name_of number) (name_can number small)

name_no_blank : (number : ℕ) → number < 16 → HasNoBlank (name_of number)
name_no_blank number small = path_no_blank (name_of number) (name_can number small).prints

-- ---- the rows

pub creat_read : (caller name : ℕ) → name < 16 → IsReadOfText (creat_call caller name)
creat_read caller name small = read_two Creat path_in (octal_in 3) (name_of name) (codes "644") (name_of name) 420 (name_no_blank name small) (name_is name small) refl _ refl

pub open_read : (caller name : ℕ) → name < 16 → IsReadOfText (open_call caller name)
open_read caller name small = read_two Open path_in how_in (name_of name) (codes "rw") (name_of name) Both (name_no_blank name small) (name_is name small) refl _ refl

pub fill_read : (caller fd count byte : ℕ) → fd < 4 → count < 512 → byte < 256 → IsReadOfText (fill_call caller fd count byte)
fill_read caller fd count byte low few small =
    read_three fills short_in short_in (number_below 256) (decimal (fd_of fd)) (decimal count) (decimal byte) (fd_of fd) count byte
    (short_no_blank (fd_of fd) (omega arith)) (short_no_blank count (omega arith)) (short_is (fd_of fd) (omega arith)) (short_is count (omega arith)) (number_below-decimal 256 byte small (omega arith)) _
    (append_assoc (decimal (fd_of fd) ++ codes " " ++ decimal count) (codes " ") (decimal byte) ∙ ap (λ l. l ++ 32 ∷ decimal byte) (append_assoc (decimal (fd_of fd)) (codes " ") (decimal count))
    ∙ append_assoc (decimal (fd_of fd)) (32 ∷ decimal count) (32 ∷ decimal byte))

pub read_read : (caller fd count : ℕ) → fd < 4 → count < 512 → IsReadOfText (read_call caller fd count)
read_read caller fd count low few =
    read_two Read short_in short_in (decimal (fd_of fd)) (decimal count) (fd_of fd) count (short_no_blank (fd_of fd) (omega arith)) (short_is (fd_of fd) (omega arith)) (short_is count (omega arith)) _
    (append_assoc (decimal (fd_of fd)) (codes " ") (decimal count))

pub close_read : (caller fd : ℕ) → fd < 4 → IsReadOfText (close_call caller fd)
close_read caller fd low = ap (one Close) (short_is (fd_of fd) (omega arith))

pub unlink_read : (caller name : ℕ) → name < 16 → IsReadOfText (unlink_call caller name)
unlink_read caller name small = ap (one Unlink) (name_is name small)

pub stat_read : (caller name : ℕ) → name < 16 → IsReadOfText (stat_call caller name)
stat_read caller name small = ap (one Stat) (name_is name small)

pub lseek_read : (caller fd offset : ℕ) → fd < 4 → offset < 8192 → IsReadOfText (lseek_call caller fd offset)
lseek_read caller fd offset low few =
    read_three Lseek short_in offset_in whence_in (decimal (fd_of fd)) (decimal offset) (codes "0") (fd_of fd) (pos offset) Start
    (short_no_blank (fd_of fd) (omega arith)) (short_no_blank offset (omega arith)) (short_is (fd_of fd) (omega arith)) (offset_in-decimal (pos offset) (omega (arith, ints)) (omega (arith, ints))) refl _
    (ap (λ l. l ++ codes " 0") (append_assoc (decimal (fd_of fd)) (codes " ") (decimal offset)) ∙ append_assoc (decimal (fd_of fd)) (32 ∷ decimal offset) (codes " 0"))
