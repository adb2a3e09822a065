-- For which blocks of a volume a query or an operation may ask: the super-block, the i-list, the blocks
-- of the free chain, and the blocks of the inodes at which it looks.
use Rattle.std.specs.Prelude.{List, [], ◌∷◌, ℕ, ◌<◌, ◌≤◌, ◌≡◌, ◌⊎◌, Option, Some, None, Ok, take, length}
use Rattle.std.specs.List.{Contains}
use Rattle.mb_kinds.specs.Image.{Image}
use Rattle.mb_kinds.specs.declared.credentials.Cred.{Cred}
use Rattle.mb_word.specs.Fields.{isize_of}
use Rattle.mb_tree.specs.Maps.{Numbered}
use Rattle.mb_tree.specs.Lookup.{walk, start_of, components, number_in}
use Rattle.mb_tree.specs.Blocks.{pointers, IsFreeChain}
use Rattle.mb_tree.specs.Places.{Place, at, IsPlace}
use Rattle.mb_tree.specs.Places.Place.{Top, Under}
use Rattle.mb_tree.specs.Volume.{has_addresses}
use Rattle.mb_tree.specs.declared.nodes.Node.{Node}
use Rattle.mb_tree.specs.declared.trees.Tree.{Tree}
use Rattle.mb_tree.specs.declared.operations.FsOp.{FsOp}
use Rattle.mb_tree.specs.declared.operations.FsOp.TheVariants.{Create, Empty, MakeDir, RemoveDir, Enlink, Delink, Put, SetMode, SetOwner, SetTimes, Hold, Release}
use Rattle.mb_iface.specs.declared.queries.Query.{Query}
use Rattle.mb_iface.specs.declared.queries.Query.TheVariants.{Find, Place as PlaceOf, Info, Bytes, Used}

-- the inode whose addresses begin the way to a place
abbrev pub top_of : Place → ℕ
top_of (Top ino place) = ino
top_of (Under above place) = top_of above

-- a block near the inodes that pass
pub data IsNear (image : Image) (tree : Tree) (Looks : ℕ → Type 0) (block : ℕ) : Type 0 where
  super_block : block ≡ 1 → IsNear image tree Looks block
  inode_list : 2 ≤ block → block < isize_of (image.at 1) → IsNear image tree Looks block
  free : (chain : List ℕ) → IsFreeChain image.at chain → Contains chain block → IsNear image tree Looks block
  held : (q : Place) → IsPlace (has_addresses tree) q → Looks (top_of q) → at (pointers image.at) q ≡ block → IsNear image tree Looks block

-- an inode on the way of the first components
abbrev pub IsOnWay : Numbered Node → Cred → ℕ → List (List ℕ) → ℕ → Type 0
IsOnWay nodes cred start names ino = (passed : ℕ) × (passed ≤ length names) × (walk nodes cred start (take passed names) ≡ Ok ino)

-- the last component leads to an inode that a place does not look at
abbrev pub IsOnWayBefore : Numbered Node → Cred → ℕ → List (List ℕ) → ℕ → Type 0
IsOnWayBefore nodes cred start names ino = (passed : ℕ) × (passed < length names) × (walk nodes cred start (take passed names) ≡ Ok ino)

-- the inodes that a look-up passes, and the one that a query names
abbrev pub IsPassed : Tree → Query → ℕ → Type 0
IsPassed tree (Find cwd cred path) ino = IsOnWay tree.nodes cred (start_of cwd path) (components path) ino
IsPassed tree (PlaceOf cwd cred path) ino = IsOnWayBefore tree.nodes cred (start_of cwd path) (components path) ino
IsPassed tree (Info named) ino = ino ≡ named
IsPassed tree (Bytes named offset count) ino = ino ≡ named
IsPassed tree (Used named) ino = ino ≡ named

-- the inodes that an operation names
abbrev pub named_by : FsOp → List ℕ
named_by (Create dir name mode uid gid moment) = dir ∷ []
named_by (Empty ino moment) = ino ∷ []
named_by (MakeDir dir name mode uid gid moment) = dir ∷ []
named_by (RemoveDir dir name moment) = dir ∷ []
named_by (Enlink dir name ino moment) = dir ∷ ino ∷ []
named_by (Delink dir name moment) = dir ∷ []
named_by (Put ino offset bytes moment) = ino ∷ []
named_by (SetMode ino mode moment) = ino ∷ []
named_by (SetOwner ino uid gid moment) = ino ∷ []
named_by (SetTimes ino atime mtime moment) = ino ∷ []
named_by (Hold ino) = ino ∷ []
named_by (Release inos) = inos

-- the inode to which the slot leads that an operation names
abbrev pub led_by : Numbered Node → FsOp → Option ℕ
led_by nodes (Create dir name mode uid gid moment) = number_in nodes dir name
led_by nodes (MakeDir dir name mode uid gid moment) = number_in nodes dir name
led_by nodes (RemoveDir dir name moment) = number_in nodes dir name
led_by nodes (Enlink dir name ino moment) = number_in nodes dir name
led_by nodes (Delink dir name moment) = number_in nodes dir name
led_by nodes _ = None

abbrev pub IsTouched : Tree → FsOp → ℕ → Type 0
IsTouched tree op ino = Contains (named_by op) ino ⊎ (led_by tree.nodes op ≡ Some ino)
