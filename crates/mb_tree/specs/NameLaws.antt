-- Laws of the operations on names, and of all operations, each the contract of a function without a body.
use Rattle.std.specs.Prelude.{List, ℕ, ◌≡◌, Option, Ok}
use Rattle.mb_tree.specs.Sessions.{Counts}
use Rattle.mb_tree.specs.Effect.{tree_after}
use Rattle.mb_tree.specs.Fits.{Fits}
use Rattle.mb_tree.specs.Trees.{IsSound}
use Rattle.mb_tree.specs.declared.trees.Tree.{Tree}
use Rattle.mb_tree.specs.declared.operations.FsOp.{FsOp}
use Rattle.mb_tree.specs.declared.operations.FsOp.TheVariants.{Create, MakeDir, RemoveDir, Enlink, Delink}

-- an operation that fits keeps a sound tree sound
abbrev pub KeepsSound : FsOp → Type 0
KeepsSound op = (tree : Tree) (opens : Counts) (pick : Option ℕ) (next : Tree) → IsSound tree → Fits tree opens op pick → tree_after tree opens op pick ≡ Ok next → IsSound next

-- one name more
abbrev pub EnlinkKept : Type 0
EnlinkKept = (dir : ℕ) (name : List ℕ) (ino moment : ℕ) → KeepsSound (Enlink dir name ino moment)

-- one name less
abbrev pub DelinkKept : Type 0
DelinkKept = (dir : ℕ) (name : List ℕ) (moment : ℕ) → KeepsSound (Delink dir name moment)

-- a file made under a missing name, with a free number
abbrev pub CreateKept : Type 0
CreateKept = (dir : ℕ) (name : List ℕ) (mode uid gid moment : ℕ) → KeepsSound (Create dir name mode uid gid moment)

-- a directory made so
abbrev pub MakeDirKept : Type 0
MakeDirKept = (dir : ℕ) (name : List ℕ) (mode uid gid moment : ℕ) → KeepsSound (MakeDir dir name mode uid gid moment)

-- a directory with two used slots removed
abbrev pub RemoveDirKept : Type 0
RemoveDirKept = (dir : ℕ) (name : List ℕ) (moment : ℕ) → KeepsSound (RemoveDir dir name moment)

-- each operation that fits
abbrev pub OperationKept : Type 0
OperationKept = (tree : Tree) (opens : Counts) (op : FsOp) (pick : Option ℕ) (next : Tree) → IsSound tree → Fits tree opens op pick → tree_after tree opens op pick ≡ Ok next → IsSound next
