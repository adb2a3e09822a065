-- Each call that is read of a line is one that a text can write.
use Rattle.std.proofs.Common.{List, ℕ, ◌<◌, Bool, true, false, cond, codes, Option, Some, None, option_and_then, arith}
use Rattle.std.specs.Prelude.{IfSome, bytes_eq}
use Rattle.std.proofs.lemmas.Bool.{cond_both}
use Rattle.mb_kinds.specs.declared.calls.Call.{Call}
use Rattle.mb_kinds.specs.declared.calls.Call.TheVariants.{Open, Creat, Close, Read, Write, Lseek, Dup, Link, Unlink, Mkdir, Rmdir, Chdir, Stat, Fstat, Chmod, Chown, Utime, Access, Umask, Sync, Exit}
use Rattle.mb_jobs.specs.Calls.{after_two, fills, line_call, one, read_as, second_word, three, two}
use Rattle.mb_jobs.specs.Numbers.{number_below, octal_in, offset_in, short_in}
use Rattle.mb_jobs.specs.Paths.{hex_in, how_in, path_in, raw_in, whence_in}
use Rattle.mb_jobs.specs.Verbs.{descriptor_verb, inode_verb, name_verb, or_else, verb_in}
use Rattle.mb_jobs.specs.Words.{after_word, first_word}
use Rattle.mb_call_texts.specs.Laws.{HasOneText, ReadsWritable}
use Rattle.mb_call_texts.specs.Writable.{CanBePath, CanBeWrite, CanBeWritten}
use Rattle.mb_call_texts.proofs.Ranges.{IsOffset, hex_in-CanBeWrite, number_below-IsBelow, octal_in-four, octal_in-three, offset_in-IsOffset, path_in-CanBePath, raw_in-CanBeWrite, replicate-CanBeWrite}
use Rattle.mb_call_texts.proofs.ReadBack.{reads_back}

-- a call that a text can write, where there is one
abbrev Writable : Option Call → Type 0
Writable found = IfSome found CanBeWritten

one_of : {A : Type 0} (make : A → Call) (found : Option A) → IfSome found (λ x. CanBeWritten (make x)) → Writable (one make found)
one_of make None is = tt
one_of make (Some x) is = is

two_of : {A B : Type 0} (make : A → B → Call) (P : A → Type 0) (Q : B → Type 0) (first : Option A) (second : Option B) → ((x : A) (y : B) → P x → Q y → CanBeWritten (make x y))
    → IfSome first P → IfSome second Q → Writable (two make first second)
two_of make P Q None second both p q = tt
two_of make P Q (Some x) None both p q = tt
two_of make P Q (Some x) (Some y) both p q = both x y p q

three_of : {A B C : Type 0} (make : A → B → C → Call) (P : A → Type 0) (Q : B → Type 0) (R : C → Type 0) (first : Option A) (second : Option B) (third : Option C)
    → ((x : A) (y : B) (z : C) → P x → Q y → R z → CanBeWritten (make x y z))
    → IfSome first P → IfSome second Q → IfSome third R → Writable (three make first second third)
three_of make P Q R None second third all p q r = tt
three_of make P Q R (Some x) second third all p q r = two_of (make x) Q R second third (λ y z h k. all x y z p h k) q r

any : {A : Type 0} (found : Option A) → IfSome found (λ x. Unit {0})
any None = tt
any (Some x) = tt

abbrev IsShort : ℕ → Type 0
IsShort number = number < 65536

short_of : (word : List ℕ) → IfSome (short_in word) IsShort
short_of word = number_below-IsBelow 65536 word (omega arith)

abbrev IsTime : ℕ → Type 0
IsTime number = number < 2147483648

time_of : (word : List ℕ) → IfSome (number_below 2147483648 word) IsTime
time_of word = number_below-IsBelow 2147483648 word (omega arith)

-- a verb that is read in one way or in the next
pick : {V : Type 0} (read : V → List ℕ → Option Call) (rest : List ℕ) (is : Bool) (verb : V) (more : Option V) → Writable (read verb rest) → Writable (option_and_then (λ verb. read verb rest) more)
    → Writable (option_and_then (λ verb. read verb rest) (cond is (Some verb) more))
pick read rest true verb more here after = here
pick read rest false verb more here after = after

either : {V : Type 0} (read : V → List ℕ → Option Call) (rest : List ℕ) (first second : Option V) → Writable (option_and_then (λ verb. read verb rest) first) → Writable (option_and_then (λ verb. read verb rest) second)
    → Writable (option_and_then (λ verb. read verb rest) (or_else first second))
either read rest None second here after = after
either read rest (Some verb) second here after = here

read_writable : (rest : List ℕ) → Writable (two Read (short_in (first_word rest)) (short_in (after_word rest)))
read_writable rest =
    two_of Read IsShort IsShort (short_in (first_word rest)) (short_in (after_word rest))
    (λ x y p q. (p, q)) (short_of (first_word rest)) (short_of (after_word rest))

text_writable : (rest : List ℕ) → Writable (two Write (short_in (first_word rest)) (raw_in (after_word rest)))
text_writable rest =
    two_of Write IsShort CanBeWrite (short_in (first_word rest)) (raw_in (after_word rest))
    (λ x y p q. (p, q)) (short_of (first_word rest)) (raw_in-CanBeWrite (after_word rest))

hex_writable : (rest : List ℕ) → Writable (two Write (short_in (first_word rest)) (hex_in (after_word rest)))
hex_writable rest =
    two_of Write IsShort CanBeWrite (short_in (first_word rest)) (hex_in (after_word rest))
    (λ x y p q. (p, q)) (short_of (first_word rest)) (hex_in-CanBeWrite (after_word rest))

fill_writable : (rest : List ℕ) → Writable (three fills (short_in (first_word rest)) (short_in (second_word rest)) (number_below 256 (after_two rest)))
fill_writable rest =
    three_of fills IsShort IsShort (λ byte. byte < 256) (short_in (first_word rest)) (short_in (second_word rest)) (number_below 256 (after_two rest))
    (λ x y z p q r. (p, replicate-CanBeWrite y z q r)) (short_of (first_word rest)) (short_of (second_word rest)) (number_below-IsBelow 256 (after_two rest) (omega arith))

lseek_writable : (rest : List ℕ) → Writable (three Lseek (short_in (first_word rest)) (offset_in (second_word rest)) (whence_in (after_two rest)))
lseek_writable rest =
    three_of Lseek IsShort IsOffset (λ whence. Unit {0}) (short_in (first_word rest)) (offset_in (second_word rest)) (whence_in (after_two rest))
    (λ x y z p q r. (p, q.0, q.1)) (short_of (first_word rest)) (offset_in-IsOffset (second_word rest)) (any (whence_in (after_two rest)))

open_writable : (rest : List ℕ) → Writable (two Open (path_in (first_word rest)) (how_in (after_word rest)))
open_writable rest =
    two_of Open CanBePath (λ how. Unit {0}) (path_in (first_word rest)) (how_in (after_word rest))
    (λ x y p q. p) (path_in-CanBePath (first_word rest)) (any (how_in (after_word rest)))

made_writable : (make : List ℕ → ℕ → Call) → ((path : List ℕ) (mode : ℕ) → CanBePath path → mode < 512 → CanBeWritten (make path mode)) → (rest : List ℕ)
    → Writable (two make (path_in (first_word rest)) (octal_in 3 (after_word rest)))
made_writable make both rest =
    two_of make CanBePath (λ mode. mode < 512) (path_in (first_word rest)) (octal_in 3 (after_word rest))
    both (path_in-CanBePath (first_word rest)) (octal_in-three (after_word rest))

link_writable : (rest : List ℕ) → Writable (two Link (path_in (first_word rest)) (path_in (after_word rest)))
link_writable rest =
    two_of Link CanBePath CanBePath (path_in (first_word rest)) (path_in (after_word rest))
    (λ x y p q. (p, q)) (path_in-CanBePath (first_word rest)) (path_in-CanBePath (after_word rest))

chmod_writable : (rest : List ℕ) → Writable (two Chmod (path_in (first_word rest)) (octal_in 4 (after_word rest)))
chmod_writable rest =
    two_of Chmod CanBePath (λ mode. mode < 4096) (path_in (first_word rest)) (octal_in 4 (after_word rest))
    (λ x y p q. (p, q)) (path_in-CanBePath (first_word rest)) (octal_in-four (after_word rest))

chown_writable : (rest : List ℕ) → Writable (three Chown (path_in (first_word rest)) (short_in (second_word rest)) (short_in (after_two rest)))
chown_writable rest =
    three_of Chown CanBePath IsShort IsShort (path_in (first_word rest)) (short_in (second_word rest)) (short_in (after_two rest))
    (λ x y z p q r. (p, q, r)) (path_in-CanBePath (first_word rest)) (short_of (second_word rest)) (short_of (after_two rest))

utime_writable : (rest : List ℕ) → Writable (three Utime (path_in (first_word rest)) (number_below 2147483648 (second_word rest)) (number_below 2147483648 (after_two rest)))
utime_writable rest =
    three_of Utime CanBePath IsTime IsTime (path_in (first_word rest)) (number_below 2147483648 (second_word rest)) (number_below 2147483648 (after_two rest))
    (λ x y z p q r. (p, q, r)) (path_in-CanBePath (first_word rest)) (time_of (second_word rest)) (time_of (after_two rest))

access_writable : (rest : List ℕ) → Writable (two Access (path_in (first_word rest)) (number_below 8 (after_word rest)))
access_writable rest =
    two_of Access CanBePath (λ bits. bits < 8) (path_in (first_word rest)) (number_below 8 (after_word rest))
    (λ x y p q. (p, q)) (path_in-CanBePath (first_word rest)) (number_below-IsBelow 8 (after_word rest) (omega arith))

descriptor_writable : (word rest : List ℕ) → Writable (option_and_then (λ verb. read_as verb rest) (descriptor_verb word))
descriptor_writable word rest =
    pick read_as rest (bytes_eq word (codes "close")) _ _ (one_of Close (short_in rest) (short_of rest)) (
    pick read_as rest (bytes_eq word (codes "read")) _ _ (read_writable rest) (
    pick read_as rest (bytes_eq word (codes "text")) _ _ (text_writable rest) (
    pick read_as rest (bytes_eq word (codes "hex")) _ _ (hex_writable rest) (
    pick read_as rest (bytes_eq word (codes "fill")) _ _ (fill_writable rest) (
    pick read_as rest (bytes_eq word (codes "lseek")) _ _ (lseek_writable rest) (
    pick read_as rest (bytes_eq word (codes "dup")) _ _ (one_of Dup (short_in rest) (short_of rest)) (
    pick read_as rest (bytes_eq word (codes "fstat")) _ _ (one_of Fstat (short_in rest) (short_of rest)) (
    tt))))))))

name_writable : (word rest : List ℕ) → Writable (option_and_then (λ verb. read_as verb rest) (name_verb word))
name_writable word rest =
    pick read_as rest (bytes_eq word (codes "open")) _ _ (open_writable rest) (
    pick read_as rest (bytes_eq word (codes "creat")) _ _ (made_writable Creat (λ path mode p q. (p, q)) rest) (
    pick read_as rest (bytes_eq word (codes "link")) _ _ (link_writable rest) (
    pick read_as rest (bytes_eq word (codes "unlink")) _ _ (one_of Unlink (path_in rest) (path_in-CanBePath rest)) (
    pick read_as rest (bytes_eq word (codes "mkdir")) _ _ (made_writable Mkdir (λ path mode p q. (p, q)) rest) (
    pick read_as rest (bytes_eq word (codes "rmdir")) _ _ (one_of Rmdir (path_in rest) (path_in-CanBePath rest)) (
    tt))))))

inode_writable : (word rest : List ℕ) → Writable (option_and_then (λ verb. read_as verb rest) (inode_verb word))
inode_writable word rest =
    pick read_as rest (bytes_eq word (codes "chdir")) _ _ (one_of Chdir (path_in rest) (path_in-CanBePath rest)) (
    pick read_as rest (bytes_eq word (codes "stat")) _ _ (one_of Stat (path_in rest) (path_in-CanBePath rest)) (
    pick read_as rest (bytes_eq word (codes "chmod")) _ _ (chmod_writable rest) (
    pick read_as rest (bytes_eq word (codes "chown")) _ _ (chown_writable rest) (
    pick read_as rest (bytes_eq word (codes "utime")) _ _ (utime_writable rest) (
    pick read_as rest (bytes_eq word (codes "access")) _ _ (access_writable rest) (
    pick read_as rest (bytes_eq word (codes "umask")) _ _ (one_of Umask (octal_in 3 rest) (octal_in-three rest)) (
    tt)))))))

verb_writable : (word rest : List ℕ) → Writable (option_and_then (λ verb. read_as verb rest) (verb_in word))
verb_writable word rest =
    either read_as rest (descriptor_verb word) (or_else (name_verb word) (inode_verb word)) (descriptor_writable word rest)
    (either read_as rest (name_verb word) (inode_verb word) (name_writable word rest) (inode_writable word rest))

line_writable : (line : List ℕ) → Writable (line_call line)
line_writable line =
    let others : Option Call = option_and_then (λ verb. read_as verb (after_word line)) (verb_in (first_word line)) in
    cond_both (bytes_eq line (codes "sync")) (Some Sync) (cond (bytes_eq line (codes "exit")) (Some Exit) others) Writable (λ _. tt)
    (λ _. cond_both (bytes_eq line (codes "exit")) (Some Exit) others Writable (λ _. tt) (λ _. verb_writable (first_word line) (after_word line)))

pub reads_writable : ReadsWritable
reads_writable line call is = rw is at (line_writable line)

pub has_one_text : HasOneText
has_one_text line call is = reads_back call (reads_writable line call is)
