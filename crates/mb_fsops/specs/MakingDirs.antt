-- A directory made under a new name.
use Rattle.std.specs.Prelude.{List, ℕ, ◌+◌, ◌<◌, ◌≡◌, Option}
use Rattle.mb_kinds.specs.Image.{Image}
use Rattle.mb_tree.specs.Views.{IsPart}
use Rattle.mb_tree.specs.Volume.{IsVolume}
use Rattle.mb_tree.specs.declared.nodes.Node.{Node}
use Rattle.mb_tree.specs.declared.nodes.PlainSlot.{PlainSlot}
use Rattle.mb_tree.specs.declared.operations.FsOp.TheVariants.{MakeDir}
use Rattle.mb_tree.specs.declared.trees.Tree.{Tree}
use Rattle.mb_iface.specs.Acting.{Acts}
use Rattle.mb_iface.specs.Needs.{ActsFor}
use Rattle.mb_iface.specs.declared.replies.Acted.{Acted}
use Rattle.mb_dirs.specs.Entering.{IsGap}
use Rattle.mb_dirs.specs.declared.enters.Gap.{Gap}
use Rattle.mb_dirs.specs.declared.makes.NewInode.{NewInode}
use Rattle.mb_fsops.specs.Creating.{PicksAsV7}
use Rattle.mb_fsops.specs.Performing.{OpenFiles}
use Rattle.mb_fsops.specs.Places.{IsDirectoryWith}

-- where a new directory's name goes, in a directory that has so many links with that of its `..`
pub record IsOpenBelow (tree : Tree) (dir links : ℕ) (gap : Gap) : Type 0 where
  pub parent : Node
  pub slots : List PlainSlot
  pub directory : IsDirectoryWith tree dir parent slots
  pub few : parent.nlink < 32767
  pub more : parent.nlink + 1 ≡ links
  pub stands : IsGap slots gap

-- the operation on every volume on which the name goes there
pub record MakesDirAt (shown : ℕ → Option (List ℕ)) (dir links : ℕ) (gap : Gap) (name : List ℕ) (new : NewInode) (demanded : Option ℕ) (result : Acted) : Type 0 where
  pub need : ActsFor shown result
  pub answer : (image : Image) (tree : Tree) → IsPart shown image.at → IsVolume image tree → IsOpenBelow tree dir links gap
      → (opens : OpenFiles) → Acts shown image tree opens (MakeDir dir name new.mode new.uid new.gid new.moment) demanded result
  pub picks : PicksAsV7 shown demanded result
