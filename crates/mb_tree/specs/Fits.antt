-- Which operations fit a tree and the counts of open files: they name what is there, and enter only names that
-- are missing. The operation that a call plans fits the valid machine on which it is planned (law
-- operations_fit). Nothing is promised of one that does not fit.
use Rattle.std.specs.Prelude.{List, ℕ, ◌<◌, ◌≤◌, ◌≡◌, ◌≢◌, ◌⊎◌, false, length, Option, Some, None, IfSome, All, count_by, nat_eq}
use Rattle.std.specs.FinMap as fin
use Rattle.mb_tree.specs.Maps.{Numbered}
use Rattle.mb_tree.specs.Inodes.{slots_of}
use Rattle.mb_tree.specs.Lookup.{number_in, used_in}
use Rattle.mb_tree.specs.Sessions.{Counts}
use Rattle.mb_tree.specs.Rows.{is_dots}
use Rattle.mb_tree.specs.Step.{IsFreeNumber}
use Rattle.mb_tree.specs.Trees.{IsThere, IsDirectoryAt, IsRegularAt, IsName}
use Rattle.mb_tree.specs.declared.nodes.Node.{Node}
use Rattle.mb_tree.specs.declared.trees.Tree.{Tree}
use Rattle.mb_tree.specs.declared.operations.FsOp.{FsOp}
use Rattle.mb_tree.specs.declared.operations.FsOp.TheVariants.{Create, Empty, MakeDir, RemoveDir, Enlink, Delink, Put, SetMode, SetOwner, SetTimes, Hold, Release}

-- an inode that is no directory
pub record IsLeafAt (nodes : Numbered Node) (ino : ℕ) : Type 0 where
  pub node : Node
  pub has : fin.get nodes ino ≡ Some node
  pub body : slots_of node.body ≡ None

-- an inode that can be open
abbrev pub IsOpenable : Numbered Node → ℕ → Type 0
IsOpenable nodes ino = IsRegularAt nodes ino ⊎ IsDirectoryAt nodes ino

-- a name that is missing in a directory
pub record IsMissing (nodes : Numbered Node) (dir : ℕ) (name : List ℕ) : Type 0 where
  pub directory : IsDirectoryAt nodes dir
  pub named : IsName name
  pub missing : number_in nodes dir name ≡ None

-- an inode made under a missing name: a picked number is free
pub record FitsNew (tree : Tree) (dir : ℕ) (name : List ℕ) (mode : ℕ) (pick : Option ℕ) : Type 0 where
  pub missing : IsMissing tree.nodes dir name
  pub permissions : mode < 512
  pub picked : IfSome pick (IsFreeNumber tree)

-- a directory removed: it has two used slots and is not open
pub record FitsRemoval (tree : Tree) (opens : Counts) (dir : ℕ) (name : List ℕ) : Type 0 where
  pub ino : ℕ
  pub parent : IsDirectoryAt tree.nodes dir
  pub named : IsName name
  pub no_dots : is_dots name ≡ false
  pub leads : number_in tree.nodes dir name ≡ Some ino
  pub directory : IsDirectoryAt tree.nodes ino
  pub empty : used_in tree.nodes ino ≤ 2
  pub unopened : opens ino ≡ 0

-- a name entered for an inode that is there
pub record FitsLink (tree : Tree) (dir : ℕ) (name : List ℕ) (ino : ℕ) : Type 0 where
  pub missing : IsMissing tree.nodes dir name
  pub leaf : IsLeafAt tree.nodes ino
  pub ordinary : ino ≢ 1

-- a name taken from an inode
pub record FitsUnlink (tree : Tree) (dir : ℕ) (name : List ℕ) : Type 0 where
  pub ino : ℕ
  pub directory : IsDirectoryAt tree.nodes dir
  pub named : IsName name
  pub leads : number_in tree.nodes dir name ≡ Some ino
  pub leaf : IsLeafAt tree.nodes ino

-- bytes put into a file
pub record FitsPut (tree : Tree) (ino : ℕ) (bytes : List ℕ) : Type 0 where
  pub regular : IsRegularAt tree.nodes ino
  pub some : 0 < length bytes
  pub few : length bytes ≤ 65535

-- open files released: there are so many
pub record FitsRelease (tree : Tree) (opens : Counts) (inos : List ℕ) : Type 0 where
  pub some : 0 < length inos
  pub there : All (IsThere tree.nodes) inos
  pub covered : (ino : ℕ) → count_by (nat_eq ino) inos ≤ opens ino

abbrev pub Fits : Tree → Counts → FsOp → Option ℕ → Type 0
Fits tree opens (Create dir name mode uid gid moment) pick = FitsNew tree dir name mode pick
Fits tree opens (Empty ino moment) pick = IsRegularAt tree.nodes ino
Fits tree opens (MakeDir dir name mode uid gid moment) pick = FitsNew tree dir name mode pick
Fits tree opens (RemoveDir dir name moment) pick = FitsRemoval tree opens dir name
Fits tree opens (Enlink dir name ino moment) pick = FitsLink tree dir name ino
Fits tree opens (Delink dir name moment) pick = FitsUnlink tree dir name
Fits tree opens (Put ino offset bytes moment) pick = FitsPut tree ino bytes
Fits tree opens (SetMode ino mode moment) pick = IsThere tree.nodes ino × (mode < 4096)
Fits tree opens (SetOwner ino uid gid moment) pick = IsThere tree.nodes ino
Fits tree opens (SetTimes ino atime mtime moment) pick = IsThere tree.nodes ino
Fits tree opens (Hold ino) pick = IsOpenable tree.nodes ino
Fits tree opens (Release inos) pick = FitsRelease tree opens inos
