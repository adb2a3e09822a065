-- The text of each call is read as that call.
use Rattle.std.proofs.Common.{List, [], ◌∷◌, ◌++◌, ℕ, ℤ, pos, negsuc, suc, ◌<◌, ◌≡◌, Option, Some, refl, ap, ◌∙◌, append_assoc, arith}
use Rattle.std.specs.Prelude.{decimal, ◌≤ℤ◌}
use Rattle.std.specs.Fmt.{signed_decimal}
use Rattle.std.proofs.lemmas.Int.{ints}
use Rattle.hex.specs.Hex.{encode_lower}
use Rattle.mb_kinds.specs.declared.calls.Call.{Call}
use Rattle.mb_kinds.specs.declared.calls.Call.TheVariants.{Open, Creat, Close, Read, Write, Lseek, Dup, Link, Unlink, Mkdir, Rmdir, Chdir, Stat, Fstat, Chmod, Chown, Utime, Access, Umask, Sync, Exit}
use Rattle.mb_jobs.specs.Calls.{after_two, fills, line_call, one, second_word, three, two}
use Rattle.mb_jobs.specs.Numbers.{number_below, octal_in, offset_in, short_in}
use Rattle.mb_jobs.specs.Paths.{hex_in, how_in, path_in, whence_in}
use Rattle.mb_jobs.specs.Words.{after_word, first_word}
use Rattle.mb_call_texts.specs.CallText.{call_text, how_word, octal_word, path_word, whence_word}
use Rattle.mb_call_texts.specs.Laws.{ReadsBack}
use Rattle.mb_call_texts.specs.Writable.{CanBePath, CanBeWrite}
use Rattle.mb_call_texts.proofs.Arguments.{hex_in-encode_lower, how_in-word, path_in-word, whence_in-word}
use Rattle.mb_call_texts.proofs.Blanks.{HasNoBlank, after_word-of, decimal_no_blank, first_word-of, path_no_blank}
use Rattle.mb_call_texts.proofs.Numerals.{number_below-decimal, octal_in-octal, offset_in-decimal}

-- two arguments and three, each read of its word
read_two : {A B : Type 0} (make : A → B → Call) (p : List ℕ → Option A) (q : List ℕ → Option B) (first second : List ℕ) (x : A) (y : B) → HasNoBlank first → p first ≡ Some x → q second ≡ Some y
    → two make (p (first_word (first ++ 32 ∷ second))) (q (after_word (first ++ 32 ∷ second))) ≡ Some (make x y)
read_two make p q first second x y none px qy =
    let a : p (first_word (first ++ 32 ∷ second)) ≡ Some x = ap p (first_word-of first second none) ∙ px in
    let b : q (after_word (first ++ 32 ∷ second)) ≡ Some y = ap q (after_word-of first second none) ∙ qy in
    rw (a, b)

read_three : {A B C : Type 0} (make : A → B → C → Call) (p : List ℕ → Option A) (q : List ℕ → Option B) (r : List ℕ → Option C) (first second third : List ℕ) (x : A) (y : B) (z : C)
    → HasNoBlank first → HasNoBlank second → p first ≡ Some x → q second ≡ Some y → r third ≡ Some z → (line : List ℕ) → line ≡ (first ++ 32 ∷ second) ++ 32 ∷ third
    → three make (p (first_word line)) (q (second_word line)) (r (after_two line)) ≡ Some (make x y z)
read_three make p q r first second third x y z none none2 px qy rz line is =
    let whole : line ≡ first ++ 32 ∷ (second ++ 32 ∷ third) = is ∙ append_assoc first (32 ∷ second) (32 ∷ third) in
    let after : after_word line ≡ second ++ 32 ∷ third = ap after_word whole ∙ after_word-of first (second ++ 32 ∷ third) none in
    let a : p (first_word line) ≡ Some x = ap (λ l. p (first_word l)) whole ∙ ap p (first_word-of first (second ++ 32 ∷ third) none) ∙ px in
    let b : q (second_word line) ≡ Some y = ap (λ l. q (first_word l)) after ∙ ap q (first_word-of second third none2) ∙ qy in
    let c : r (after_two line) ≡ Some z = ap (λ l. r (after_word l)) after ∙ ap r (after_word-of second third none2) ∙ rz in
    rw (a, b, c)

-- a descriptor, a count or a user
short_is : (n : ℕ) → n < 65536 → short_in (decimal n) ≡ Some n
short_is n small = number_below-decimal 65536 n small (omega arith)

short_no_blank : (n : ℕ) → n < 65536 → HasNoBlank (decimal n)
short_no_blank n small = decimal_no_blank n (omega arith)

offset_no_blank : (offset : ℤ) → negsuc 2147483647 ≤ℤ offset → offset ≤ℤ pos 2147483647 → HasNoBlank (signed_decimal offset)
offset_no_blank (pos n) low high = decimal_no_blank n (omega (arith, ints))
offset_no_blank (negsuc n) low high = (λ same. omega arith, decimal_no_blank (suc n) (omega (arith, ints)))

one_path : (make : List ℕ → Call) (path : List ℕ) → CanBePath path → one make (path_in (path_word path)) ≡ Some (make path)
one_path make path can = ap (one make) (path_in-word path can)

one_number : (make : ℕ → Call) (fd : ℕ) → fd < 65536 → one make (short_in (decimal fd)) ≡ Some (make fd)
one_number make fd small = ap (one make) (short_is fd small)

path_mode : (make : List ℕ → ℕ → Call) (path : List ℕ) (mode : ℕ) → CanBePath path → mode < 512
    → two make (path_in (first_word (path_word path ++ 32 ∷ octal_word mode))) (octal_in 3 (after_word (path_word path ++ 32 ∷ octal_word mode))) ≡ Some (make path mode)
path_mode make path mode can small =
    read_two make path_in (octal_in 3) (path_word path) (octal_word mode) path mode (path_no_blank path can.prints) (path_in-word path can) (octal_in-octal 2 mode (omega arith) (omega arith))

write_back : (fd : ℕ) (bytes : List ℕ) → fd < 65536 → CanBeWrite bytes → line_call (call_text (Write fd bytes)) ≡ Some (Write fd bytes)
write_back fd [] small can =
    read_three fills short_in short_in (number_below 256) (decimal fd) (48 ∷ []) (48 ∷ []) fd 0 0 (short_no_blank fd small) (λ same. omega arith, tt) (short_is fd small) refl refl _ refl
write_back fd (byte ∷ more) small can =
    read_two Write short_in hex_in (decimal fd) (encode_lower (byte ∷ more)) fd (byte ∷ more) (short_no_blank fd small) (short_is fd small) (hex_in-encode_lower byte more can)

pub reads_back : ReadsBack
reads_back (Open path how) can =
    read_two Open path_in how_in (path_word path) (how_word how) path how (path_no_blank path can.prints) (path_in-word path can) (how_in-word how)
reads_back (Creat path mode) can = path_mode Creat path mode can.0 can.1
reads_back (Close fd) can = one_number Close fd can
reads_back (Read fd count) can =
    read_two Read short_in short_in (decimal fd) (decimal count) fd count (short_no_blank fd can.0) (short_is fd can.0) (short_is count can.1)
reads_back (Write fd bytes) can = write_back fd bytes can.0 can.1
reads_back (Lseek fd offset whence) can =
    read_three Lseek short_in offset_in whence_in (decimal fd) (signed_decimal offset) (whence_word whence) fd offset whence (short_no_blank fd can.0) (offset_no_blank offset can.1 can.2) (short_is fd can.0) (offset_in-decimal offset can.1 can.2) (whence_in-word whence) _ refl
reads_back (Dup fd) can = one_number Dup fd can
reads_back (Link from to) can =
    read_two Link path_in path_in (path_word from) (path_word to) from to (path_no_blank from can.0.prints) (path_in-word from can.0) (path_in-word to can.1)
reads_back (Unlink path) can = one_path Unlink path can
reads_back (Mkdir path mode) can = path_mode Mkdir path mode can.0 can.1
reads_back (Rmdir path) can = one_path Rmdir path can
reads_back (Chdir path) can = one_path Chdir path can
reads_back (Stat path) can = one_path Stat path can
reads_back (Fstat fd) can = one_number Fstat fd can
reads_back (Chmod path mode) can =
    read_two Chmod path_in (octal_in 4) (path_word path) (octal_word mode) path mode (path_no_blank path can.0.prints) (path_in-word path can.0) (octal_in-octal 3 mode (omega arith) can.1)
reads_back (Chown path uid gid) can =
    read_three Chown path_in short_in short_in (path_word path) (decimal uid) (decimal gid) path uid gid (path_no_blank path can.0.prints) (short_no_blank uid can.1) (path_in-word path can.0) (short_is uid can.1) (short_is gid can.2) _ refl
reads_back (Utime path atime mtime) can =
    read_three Utime path_in (number_below 2147483648) (number_below 2147483648) (path_word path) (decimal atime) (decimal mtime) path atime mtime (path_no_blank path can.0.prints) (decimal_no_blank atime (omega arith)) (path_in-word path can.0) (number_below-decimal 2147483648 atime can.1 (omega arith)) (number_below-decimal 2147483648 mtime can.2 (omega arith)) _ refl
reads_back (Access path bits) can =
    read_two Access path_in (number_below 8) (path_word path) (decimal bits) path bits (path_no_blank path can.0.prints) (path_in-word path can.0) (number_below-decimal 8 bits can.1 (omega arith))
reads_back (Umask mask) can = ap (one Umask) (octal_in-octal 2 mask (omega arith) (omega arith))
reads_back Sync can = refl
reads_back Exit can = refl
