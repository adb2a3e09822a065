-- The calls that a text can write.
use Rattle.std.specs.Prelude.{List, [], ◌∷◌, ℕ, ◌<◌, ◌≤◌, ◌≢◌, pos, negsuc, ◌≤ℤ◌, All, length}
use Rattle.mb_kinds.specs.declared.calls.Call.{Call}
use Rattle.mb_kinds.specs.declared.calls.Call.TheVariants.{Open, Creat, Close, Read, Write, Lseek, Dup, Link, Unlink, Mkdir, Rmdir, Chdir, Stat, Fstat, Chmod, Chown, Utime, Access, Umask, Sync, Exit}

-- a path that a word can be: at most 255 bytes that print and are no blank, and not two quotes (34), since that word is the empty path
pub record CanBePath (path : List ℕ) : Type 0 where
  pub short : length path ≤ 255
  pub prints : All (λ byte. (33 ≤ byte) × (byte ≤ 126)) path
  pub plain : path ≢ 34 ∷ 34 ∷ []

-- what a write can write: at most 65,535 bytes; none is written by a fill of count 0
pub record CanBeWrite (bytes : List ℕ) : Type 0 where
  pub short : length bytes ≤ 65535
  pub small : All (λ byte. byte < 256) bytes

-- a call whose numbers and words are in the ranges of its text
abbrev pub CanBeWritten : Call → Type 0
CanBeWritten (Open path how) = CanBePath path
CanBeWritten (Creat path mode) = CanBePath path × (mode < 512)
CanBeWritten (Close fd) = fd < 65536
CanBeWritten (Read fd count) = (fd < 65536) × (count < 65536)
CanBeWritten (Write fd bytes) = (fd < 65536) × CanBeWrite bytes
CanBeWritten (Lseek fd offset whence) = (fd < 65536) × (negsuc 2147483647 ≤ℤ offset) × (offset ≤ℤ pos 2147483647)
CanBeWritten (Dup fd) = fd < 65536
CanBeWritten (Link from to) = CanBePath from × CanBePath to
CanBeWritten (Unlink path) = CanBePath path
CanBeWritten (Mkdir path mode) = CanBePath path × (mode < 512)
CanBeWritten (Rmdir path) = CanBePath path
CanBeWritten (Chdir path) = CanBePath path
CanBeWritten (Stat path) = CanBePath path
CanBeWritten (Fstat fd) = fd < 65536
CanBeWritten (Chmod path mode) = CanBePath path × (mode < 4096)
CanBeWritten (Chown path uid gid) = CanBePath path × (uid < 65536) × (gid < 65536)
CanBeWritten (Utime path atime mtime) = CanBePath path × (atime < 2147483648) × (mtime < 2147483648)
CanBeWritten (Access path bits) = CanBePath path × (bits < 8)
CanBeWritten (Umask mask) = mask < 512
CanBeWritten Sync = Unit {0}
CanBeWritten Exit = Unit {0}
