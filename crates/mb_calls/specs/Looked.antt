-- At which inodes a call looks: those on the way of its paths, those to which these lead, and those of its
-- caller's open files.
use Rattle.std.specs.Prelude.{List, [], ◌∷◌, ℕ, ◌≡◌, Some, slice_get}
use Rattle.std.specs.List.{Contains}
use Rattle.mb_kinds.specs.declared.calls.Call.{Call}
use Rattle.mb_kinds.specs.declared.calls.Call.TheVariants as call
use Rattle.mb_iface.specs.Near.{IsOnWay}
use Rattle.mb_tree.specs.Lookup.{components, start_of}
use Rattle.mb_tree.specs.Maps.{Numbered}
use Rattle.mb_tree.specs.Sessions.{file_on, inos_of}
use Rattle.mb_tree.specs.declared.nodes.Node.{Node}
use Rattle.mb_tree.specs.declared.seats.PlainFile.{PlainFile}
use Rattle.mb_tree.specs.declared.seats.Seat.{Seat}

-- the paths of a call, in the order of its arguments; only link(2) has two
abbrev pub paths_of : Call → List (List ℕ)
paths_of (call.Open path how) = path ∷ []
paths_of (call.Creat path mode) = path ∷ []
paths_of (call.Link from to) = from ∷ to ∷ []
paths_of (call.Unlink path) = path ∷ []
paths_of (call.Mkdir path mode) = path ∷ []
paths_of (call.Rmdir path) = path ∷ []
paths_of (call.Chdir path) = path ∷ []
paths_of (call.Stat path) = path ∷ []
paths_of (call.Chmod path mode) = path ∷ []
paths_of (call.Chown path uid gid) = path ∷ []
paths_of (call.Utime path atime mtime) = path ∷ []
paths_of (call.Access path bits) = path ∷ []
paths_of _ = []

abbrev pub IsFirst : Call → List ℕ → Type 0
IsFirst made path = slice_get (paths_of made) 0 ≡ Some path

abbrev pub IsSecond : Call → List ℕ → Type 0
IsSecond made path = slice_get (paths_of made) 1 ≡ Some path

-- an inode on the way of a path of the call, that of a descriptor, or one that is left at exit(2)
pub data IsLooked (nodes : Numbered Node) (seat : Seat) (made : Call) (ino : ℕ) : Type 0 where
  passed : (path : List ℕ) → Contains (paths_of made) path → IsOnWay nodes seat.cred (start_of seat.cwd path) (components path) ino → IsLooked nodes seat made ino
  held : (fd : ℕ) (file : PlainFile) → file_on seat fd ≡ Some file → ino ≡ file.ino → IsLooked nodes seat made ino
  left : Contains (inos_of seat) ino → IsLooked nodes seat made ino
