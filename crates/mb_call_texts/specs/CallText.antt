-- The text of a call, as a job has it behind the caller's letter and a blank.
use Rattle.std.specs.Prelude.{List, [], ◌∷◌, ◌++◌, ℕ, false, codes, decimal}
use Rattle.std.specs.Fmt.{digits, signed_decimal}
use Rattle.hex.specs.Hex.{encode_lower}
use Rattle.mb_kinds.specs.declared.calls.Call.{Call}
use Rattle.mb_kinds.specs.declared.calls.Call.TheVariants.{Open, Creat, Close, Read, Write, Lseek, Dup, Link, Unlink, Mkdir, Rmdir, Chdir, Stat, Fstat, Chmod, Chown, Utime, Access, Umask, Sync, Exit}
use Rattle.mb_kinds.specs.declared.calls.How.{How}
use Rattle.mb_kinds.specs.declared.calls.How.TheVariants.{Reading, Writing, Both}
use Rattle.mb_kinds.specs.declared.calls.Whence.{Whence}
use Rattle.mb_kinds.specs.declared.calls.Whence.TheVariants.{Start, Here, End}

-- the word of a path; the empty path is written as two quotes (34)
abbrev pub path_word : List ℕ → List ℕ
path_word [] = 34 ∷ 34 ∷ []
path_word (byte ∷ more) = byte ∷ more

-- `r`, `w` or `rw`
abbrev pub how_word : How → List ℕ
how_word Reading = codes "r"
how_word Writing = codes "w"
how_word Both = codes "rw"

-- `0` from the start, `1` from here, `2` from the end
abbrev pub whence_word : Whence → List ℕ
whence_word Start = codes "0"
whence_word Here = codes "1"
whence_word End = codes "2"

-- the bits of a mode in octal, without leading zeros
abbrev pub octal_word : ℕ → List ℕ
octal_word mode = digits 8 false mode

-- a verb with one, two and three arguments, a blank (32) before each
abbrev pub with_one : List ℕ → List ℕ → List ℕ
with_one verb first = verb ++ 32 ∷ first

abbrev pub with_two : List ℕ → List ℕ → List ℕ → List ℕ
with_two verb first second = with_one verb first ++ 32 ∷ second

abbrev pub with_three : List ℕ → List ℕ → List ℕ → List ℕ → List ℕ
with_three verb first second third = with_two verb first second ++ 32 ∷ third

-- a write: by the hex digits of its bytes; a write of no bytes has no digits, and fills none
abbrev pub write_text : ℕ → List ℕ → List ℕ
write_text fd [] = with_three (codes "fill") (decimal fd) (codes "0") (codes "0")
write_text fd (byte ∷ more) = with_two (codes "hex") (decimal fd) (encode_lower (byte ∷ more))

-- the table: each call with its verb and its arguments
abbrev pub call_text : Call → List ℕ
call_text (Open path how) = with_two (codes "open") (path_word path) (how_word how)
call_text (Creat path mode) = with_two (codes "creat") (path_word path) (octal_word mode)
call_text (Close fd) = with_one (codes "close") (decimal fd)
call_text (Read fd count) = with_two (codes "read") (decimal fd) (decimal count)
call_text (Write fd bytes) = write_text fd bytes
call_text (Lseek fd offset whence) = with_three (codes "lseek") (decimal fd) (signed_decimal offset) (whence_word whence)
call_text (Dup fd) = with_one (codes "dup") (decimal fd)
call_text (Link from to) = with_two (codes "link") (path_word from) (path_word to)
call_text (Unlink path) = with_one (codes "unlink") (path_word path)
call_text (Mkdir path mode) = with_two (codes "mkdir") (path_word path) (octal_word mode)
call_text (Rmdir path) = with_one (codes "rmdir") (path_word path)
call_text (Chdir path) = with_one (codes "chdir") (path_word path)
call_text (Stat path) = with_one (codes "stat") (path_word path)
call_text (Fstat fd) = with_one (codes "fstat") (decimal fd)
call_text (Chmod path mode) = with_two (codes "chmod") (path_word path) (octal_word mode)
call_text (Chown path uid gid) = with_three (codes "chown") (path_word path) (decimal uid) (decimal gid)
call_text (Utime path atime mtime) = with_three (codes "utime") (path_word path) (decimal atime) (decimal mtime)
call_text (Access path bits) = with_two (codes "access") (path_word path) (decimal bits)
call_text (Umask mask) = with_one (codes "umask") (octal_word mask)
call_text Sync = codes "sync"
call_text Exit = codes "exit"
