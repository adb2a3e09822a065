-- The verbs of the calls that have arguments.
use Rattle.std.specs.Prelude.{List, ℕ, bytes_eq, codes, Option, Some, None, if◌then◌else◌}
use Rattle.mb_jobs.specs.declared.verbs.Verb.{Verb}
use Rattle.mb_jobs.specs.declared.verbs.Verb.TheVariants.{Open, Creat, Close, Read, Text, Hex, Fill, Lseek, Dup, Link, Unlink, Mkdir, Rmdir, Chdir, Stat, Fstat, Chmod, Chown, Utime, Access, Umask}

-- the verb of a call on a descriptor
abbrev pub descriptor_verb : List ℕ → Option Verb
descriptor_verb word =
    if bytes_eq word (codes "close") then Some Close
    else if bytes_eq word (codes "read") then Some Read
    else if bytes_eq word (codes "text") then Some Text
    else if bytes_eq word (codes "hex") then Some Hex
    else if bytes_eq word (codes "fill") then Some Fill
    else if bytes_eq word (codes "lseek") then Some Lseek
    else if bytes_eq word (codes "dup") then Some Dup
    else if bytes_eq word (codes "fstat") then Some Fstat
    else None

-- the verb of a call that makes or removes a name
abbrev pub name_verb : List ℕ → Option Verb
name_verb word =
    if bytes_eq word (codes "open") then Some Open
    else if bytes_eq word (codes "creat") then Some Creat
    else if bytes_eq word (codes "link") then Some Link
    else if bytes_eq word (codes "unlink") then Some Unlink
    else if bytes_eq word (codes "mkdir") then Some Mkdir
    else if bytes_eq word (codes "rmdir") then Some Rmdir
    else None

-- the verb of a call on an inode, and of `umask`
abbrev pub inode_verb : List ℕ → Option Verb
inode_verb word =
    if bytes_eq word (codes "chdir") then Some Chdir
    else if bytes_eq word (codes "stat") then Some Stat
    else if bytes_eq word (codes "chmod") then Some Chmod
    else if bytes_eq word (codes "chown") then Some Chown
    else if bytes_eq word (codes "utime") then Some Utime
    else if bytes_eq word (codes "access") then Some Access
    else if bytes_eq word (codes "umask") then Some Umask
    else None

-- the first that is some
abbrev pub or_else : {A : Type 0} → Option A → Option A → Option A
or_else (Some one) other = Some one
or_else None other = other

abbrev pub verb_in : List ℕ → Option Verb
verb_in word = or_else (descriptor_verb word) (or_else (name_verb word) (inode_verb word))
