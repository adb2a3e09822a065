-- A directory removed.
use Rattle.std.specs.Prelude.{List, ℕ, ◌-◌, ◌≡◌, Option}
use Rattle.mb_kinds.specs.Image.{Image}
use Rattle.mb_tree.specs.Views.{IsPart}
use Rattle.mb_tree.specs.Volume.{IsVolume}
use Rattle.mb_tree.specs.declared.nodes.Node.{Node}
use Rattle.mb_tree.specs.declared.nodes.PlainSlot.{PlainSlot}
use Rattle.mb_tree.specs.declared.operations.FsOp.TheVariants.{RemoveDir}
use Rattle.mb_tree.specs.declared.trees.Tree.{Tree}
use Rattle.mb_iface.specs.Acting.{Acts}
use Rattle.mb_iface.specs.Needs.{ActsFor}
use Rattle.mb_iface.specs.declared.replies.Acted.{Acted}
use Rattle.mb_fsops.specs.Performing.{OpenFiles}
use Rattle.mb_fsops.specs.Places.{IsDirectoryWith, IsSlotOf}

-- where a directory's name stands, in a directory that has so many links without that of its `..`
pub record IsRemovable (tree : Tree) (dir links at : ℕ) (name : List ℕ) (ino : ℕ) : Type 0 where
  pub parent : Node
  pub slots : List PlainSlot
  pub directory : IsDirectoryWith tree dir parent slots
  pub less : parent.nlink - 1 ≡ links
  pub slot : IsSlotOf slots name at ino

-- the operation on every volume on which the name stands there
pub record RemovesAt (shown : ℕ → Option (List ℕ)) (dir links at : ℕ) (name : List ℕ) (ino moment : ℕ) (result : Acted) : Type 0 where
  pub need : ActsFor shown result
  pub answer : (image : Image) (tree : Tree) → IsPart shown image.at → IsVolume image tree → IsRemovable tree dir links at name ino
      → (opens : OpenFiles) (demanded : Option ℕ) → Acts shown image tree opens (RemoveDir dir name moment) demanded result
