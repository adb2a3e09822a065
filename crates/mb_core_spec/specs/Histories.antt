-- The history, the checkpoint, and the operations since it that lead to now.
use Rattle.std.specs.Prelude.{List, [], ◌∷◌, ◌++◌, ℕ, ◌*◌, ◌≤◌, ◌≡◌, drop, length}
use Rattle.mb_kinds.specs.Image.{Image}
use Rattle.mb_kinds.specs.declared.entries.Entry.{Entry}
use Rattle.mb_folds.specs.Folded.{folded}
use Rattle.mb_tree.specs.CarriedOut.{AreCarriedOut, FindFewOpens, PickedOp, operations, tree_and_opens}
use Rattle.mb_tree.specs.History.{Legal, after, after_first}
use Rattle.mb_tree.specs.Machines.{IsValid}
use Rattle.mb_tree.specs.Views.{Kept}
use Rattle.mb_tree.specs.Volume.{IsVolume}
use Rattle.mb_tree.specs.declared.machines.Machine.{Machine}
use Rattle.mb_tree.specs.declared.seats.Seat.{Seat}
use Rattle.mb_tree.specs.declared.trees.Tree.{Tree}
use Rattle.mb_oplog.specs.declared.oplogs.Logged.{Logged}
pub use Rattle.mb_oplog.specs.Picked.{as_picked, picked_ops}

-- the history is legal, and the sessions are those of the machine after it, which is valid
pub record IsLegalSoFar (machine : Machine) (begins : ℕ) (history : List Entry) (sessions : List Seat) : Type 0 where
  pub legal : Legal machine begins history
  pub valid : IsValid (after machine history)
  pub seats : (after machine history).seats ≡ sessions

-- under its checkpointed pages the disk is a volume of the tree after the first entries, and what is not that tree's is as
-- it was on the first disk; the saved sessions are those of then
pub record IsCheckpointed (machine : Machine) (before : Tree) (first base : Image) (history : List Entry) (sealed_at : ℕ) (saved : List Seat) : Type 0 where
  pub within : sealed_at ≤ length history
  pub volume : IsVolume base (after_first machine history sealed_at).tree
  pub kept : Kept before first (after_first machine history sealed_at).tree base
  pub seats : (after_first machine history sealed_at).seats ≡ saved

-- operations in parts, the latest part first: what is left of them where all before a part were folded when it began
abbrev pub relogged : List (List PickedOp) → List PickedOp
relogged [] = []
relogged (part ∷ before) = folded (relogged before) ++ part

-- the parts one behind the other, the latest part last
abbrev pub all_parts : List (List PickedOp) → List PickedOp
all_parts [] = []
all_parts (part ∷ before) = all_parts before ++ part

-- a log is the list of operations of the entries after the checkpoint, with fronts of it folded
pub record IsLogOf (machine : Machine) (history : List Entry) (sealed_at : ℕ) (ops : List PickedOp) : Type 0 where
  pub parts : List (List PickedOp)
  pub whole : all_parts parts ≡ operations (after_first machine history sealed_at) (drop sealed_at history)
  pub left : relogged parts ≡ ops

-- the logged operations lead from the checkpoint to now, and none of them finds more open files on an inode than 17 for
-- each caller; they are those of the entries after the checkpoint, with fronts folded
pub record ReplaysToNow (machine : Machine) (history : List Entry) (sealed_at : ℕ) (oplog : List Logged) : Type 0 where
  pub carried : AreCarriedOut (tree_and_opens (after_first machine history sealed_at)) (picked_ops oplog) (tree_and_opens (after machine history))
  pub few : FindFewOpens (17 * length machine.seats) (tree_and_opens (after_first machine history sealed_at)) (picked_ops oplog)
  pub since : IsLogOf machine history sealed_at (picked_ops oplog)
