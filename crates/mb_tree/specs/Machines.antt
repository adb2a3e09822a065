-- Which machines are valid: a sound tree, and sessions that fit it.
use Rattle.std.specs.Prelude.{ℕ, ◌<◌, ◌≤◌, ◌≡◌, true, Some, None, slice_get}
use Rattle.mb_kinds.specs.declared.calls.How.{How}
use Rattle.mb_tree.specs.declared.seats.SessionChange.{SessionChange}
use Rattle.mb_tree.specs.declared.seats.SessionChange.TheVariants.{Fresh, Twin, Cwd}
use Rattle.std.specs.FinMap as fin
use Rattle.mb_tree.specs.Maps.{Numbered}
use Rattle.mb_tree.specs.Sessions.{writes}
use Rattle.mb_tree.specs.Trees.{IsDirectoryAt, IsRegularAt, IsSound}
use Rattle.mb_tree.specs.Fits.{IsOpenable}
use Rattle.mb_tree.specs.declared.nodes.Node.{Node}
use Rattle.mb_tree.specs.declared.seats.PlainFile.{PlainFile}
use Rattle.mb_tree.specs.declared.seats.Seat.{Seat}
use Rattle.mb_tree.specs.declared.machines.Machine.{Machine}

-- a descriptor is 3 to 19 and has an open file
pub record IsDescriptor (seat : Seat) (fd place : ℕ) : Type 0 where
  pub above : 3 ≤ fd
  pub within : fd ≤ 19
  pub file : PlainFile
  pub has : fin.get seat.files place ≡ Some file

-- an open file is at one of 17 places, as many as there are descriptors; it has a descriptor, and its inode
-- can be open; what is written is a regular file
pub record IsOpenFile (nodes : Numbered Node) (seat : Seat) (place : ℕ) (file : PlainFile) : Type 0 where
  pub within : place < 17
  pub fd : ℕ
  pub has : fin.get seat.fds fd ≡ Some place
  pub openable : IsOpenable nodes file.ino
  pub written : writes file.how ≡ true → IsRegularAt nodes file.ino

pub record IsSeated (nodes : Numbered Node) (seat : Seat) : Type 0 where
  pub cwd : IsDirectoryAt nodes seat.cwd
  pub descriptors : (fd place : ℕ) → fin.get seat.fds fd ≡ Some place → IsDescriptor seat fd place
  pub files : (place : ℕ) (file : PlainFile) → fin.get seat.files place ≡ Some file → IsOpenFile nodes seat place file

-- for one caller
pub record IsValidFor (machine : Machine) (caller : ℕ) : Type 0 where
  pub tree : IsSound machine.tree
  pub seat : (seat : Seat) → slice_get machine.seats caller ≡ Some seat → IsSeated machine.tree.nodes seat

-- for all of them
abbrev pub IsValid : Machine → Type 0
IsValid machine = (caller : ℕ) → IsValidFor machine caller

-- the session changes that a valid session can make: what is opened can be open, what becomes the current
-- directory is one, and a descriptor that comes into use is a free one of 3 to 19
pub record FitsFresh (nodes : Numbered Node) (seat : Seat) (fd ino : ℕ) (how : How) : Type 0 where
  pub above : 3 ≤ fd
  pub within : fd ≤ 19
  pub free : fin.get seat.fds fd ≡ None
  pub openable : IsOpenable nodes ino
  pub written : writes how ≡ true → IsRegularAt nodes ino

pub record FitsTwin (seat : Seat) (to : ℕ) : Type 0 where
  pub above : 3 ≤ to
  pub within : to ≤ 19
  pub free : fin.get seat.fds to ≡ None

abbrev pub FitsSession : Numbered Node → Seat → SessionChange → Type 0
FitsSession nodes seat (Fresh fd ino how) = FitsFresh nodes seat fd ino how
FitsSession nodes seat (Twin fd to) = FitsTwin seat to
FitsSession nodes seat (Cwd ino) = IsDirectoryAt nodes ino
FitsSession nodes seat _ = Unit {0}
