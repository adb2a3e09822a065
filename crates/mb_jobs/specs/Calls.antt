-- The text of one call: a verb and its arguments, as a table of the verbs.
use Rattle.std.specs.Prelude.{List, ℕ, bytes_eq, codes, replicate, Option, Some, None, option_and_then, if◌then◌else◌}
use Rattle.mb_kinds.specs.declared.calls.Call.{Call}
use Rattle.mb_kinds.specs.declared.calls.Call.TheVariants.{Open, Creat, Close, Read, Write, Lseek, Dup, Link, Unlink, Mkdir, Rmdir, Chdir, Stat, Fstat, Chmod, Chown, Utime, Access, Umask, Sync, Exit}
use Rattle.mb_jobs.specs.declared.verbs.Verb.{Verb}
use Rattle.mb_jobs.specs.declared.verbs.Verb.TheVariants as verb
use Rattle.mb_jobs.specs.Numbers.{number_below, octal_in, offset_in, short_in}
use Rattle.mb_jobs.specs.Paths.{hex_in, how_in, path_in, raw_in, whence_in}
use Rattle.mb_jobs.specs.Verbs.{verb_in}
use Rattle.mb_jobs.specs.Words.{after_word, first_word}

-- a call of one argument, of two and of three, where each of them is read
abbrev pub one : {A : Type 0} → (A → Call) → Option A → Option Call
one make (Some first) = Some (make first)
one make None = None

abbrev pub two : {A B : Type 0} → (A → B → Call) → Option A → Option B → Option Call
two make (Some first) (Some second) = Some (make first second)
two make (Some first) None = None
two make None second = None

abbrev pub three : {A B C : Type 0} → (A → B → C → Call) → Option A → Option B → Option C → Option Call
three make (Some first) second third = two (make first) second third
three make None second third = None

-- a write of so many times a byte
abbrev pub fills : ℕ → ℕ → ℕ → Call
fills fd count byte = Write fd (replicate count byte)

-- the first, the second and the third argument
abbrev pub second_word : List ℕ → List ℕ
second_word rest = first_word (after_word rest)

abbrev pub after_two : List ℕ → List ℕ
after_two rest = after_word (after_word rest)

-- the table: each verb with what it reads of the rest of its line; the last argument is all that is left
abbrev pub read_as : Verb → List ℕ → Option Call
read_as verb.Open rest = two Open (path_in (first_word rest)) (how_in (after_word rest))
read_as verb.Creat rest = two Creat (path_in (first_word rest)) (octal_in 3 (after_word rest))
read_as verb.Close rest = one Close (short_in rest)
read_as verb.Read rest = two Read (short_in (first_word rest)) (short_in (after_word rest))
read_as verb.Text rest = two Write (short_in (first_word rest)) (raw_in (after_word rest))
read_as verb.Hex rest = two Write (short_in (first_word rest)) (hex_in (after_word rest))
read_as verb.Fill rest = three fills (short_in (first_word rest)) (short_in (second_word rest)) (number_below 256 (after_two rest))
read_as verb.Lseek rest = three Lseek (short_in (first_word rest)) (offset_in (second_word rest)) (whence_in (after_two rest))
read_as verb.Dup rest = one Dup (short_in rest)
read_as verb.Link rest = two Link (path_in (first_word rest)) (path_in (after_word rest))
read_as verb.Unlink rest = one Unlink (path_in rest)
read_as verb.Mkdir rest = two Mkdir (path_in (first_word rest)) (octal_in 3 (after_word rest))
read_as verb.Rmdir rest = one Rmdir (path_in rest)
read_as verb.Chdir rest = one Chdir (path_in rest)
read_as verb.Stat rest = one Stat (path_in rest)
read_as verb.Fstat rest = one Fstat (short_in rest)
read_as verb.Chmod rest = two Chmod (path_in (first_word rest)) (octal_in 4 (after_word rest))
read_as verb.Chown rest = three Chown (path_in (first_word rest)) (short_in (second_word rest)) (short_in (after_two rest))
read_as verb.Utime rest = three Utime (path_in (first_word rest)) (number_below 2147483648 (second_word rest)) (number_below 2147483648 (after_two rest))
read_as verb.Access rest = two Access (path_in (first_word rest)) (number_below 8 (after_word rest))
read_as verb.Umask rest = one Umask (octal_in 3 rest)

-- the call that a line writes; `sync` and `exit` stand alone
abbrev pub line_call : List ℕ → Option Call
line_call line =
    if bytes_eq line (codes "sync") then Some Sync
    else if bytes_eq line (codes "exit") then Some Exit
    else option_and_then (λ (verb : Verb). read_as verb (after_word line)) (verb_in (first_word line))
