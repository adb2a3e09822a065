-- A file made under a new name.
use Rattle.std.specs.Prelude.{List, ℕ, ◌≡◌, Option, None, IfSome}
use Rattle.mb_kinds.specs.Image.{Image}
use Rattle.mb_tree.specs.Views.{IsPart}
use Rattle.mb_tree.specs.Volume.{IsVolume}
use Rattle.mb_tree.specs.declared.nodes.Node.{Node}
use Rattle.mb_tree.specs.declared.nodes.PlainSlot.{PlainSlot}
use Rattle.mb_tree.specs.declared.operations.FsOp.{FsOp}
use Rattle.mb_tree.specs.declared.operations.FsOp.TheVariants.{Create}
use Rattle.mb_tree.specs.declared.trees.Tree.{Tree}
use Rattle.mb_iface.specs.Acting.{Acts}
use Rattle.mb_iface.specs.Needs.{ActsFor}
use Rattle.mb_iface.specs.declared.replies.Acted.{Acted}
use Rattle.mb_iface.specs.declared.replies.Acted.TheVariants as acted
use Rattle.mb_dirs.specs.Choosing.{IsPickOf}
use Rattle.mb_dirs.specs.Entering.{IsGap}
use Rattle.mb_dirs.specs.declared.enters.Gap.{Gap}
use Rattle.mb_dirs.specs.declared.makes.NewInode.{NewInode}
use Rattle.mb_fsops.specs.Performing.{OpenFiles, Performs}
use Rattle.mb_fsops.specs.Places.{IsDirectoryWith}

-- of an operation that makes an inode: with the number that is demanded, if any
abbrev pub PerformsWith : (ℕ → Option (List ℕ)) → FsOp → Option ℕ → Acted → Type 0
PerformsWith shown op demanded result = (opens : OpenFiles) → Performs shown opens op demanded result

-- V7's pick on every volume of which the view is a part: the number that the cache of the super-block gives, and where
-- it gives none the one that a scan of the i-list does (V7 alloc(9))
abbrev pub IsV7Pick : (ℕ → Option (List ℕ)) → ℕ → Type 0
IsV7Pick shown ino = (image : Image) (tree : Tree) → IsPart shown image.at → IsVolume image tree → IsPickOf image.at ino

-- where no number is demanded a new inode has that one
abbrev pub PicksAsV7 : (ℕ → Option (List ℕ)) → Option ℕ → Acted → Type 0
PicksAsV7 shown demanded (acted.Done changes picked) = demanded ≡ None → IfSome picked (IsV7Pick shown)
PicksAsV7 shown demanded (acted.Refused e) = Unit {0}
PicksAsV7 shown demanded (acted.Need need) = Unit {0}
PicksAsV7 shown demanded acted.NoMemory = Unit {0}

-- where a new name goes in a directory with so many links
pub record IsOpenAt (tree : Tree) (dir links : ℕ) (gap : Gap) : Type 0 where
  pub parent : Node
  pub slots : List PlainSlot
  pub directory : IsDirectoryWith tree dir parent slots
  pub same : parent.nlink ≡ links
  pub stands : IsGap slots gap

-- the operation on every volume on which the name goes there
pub record CreatesAt (shown : ℕ → Option (List ℕ)) (dir links : ℕ) (gap : Gap) (name : List ℕ) (new : NewInode) (demanded : Option ℕ) (result : Acted) : Type 0 where
  pub need : ActsFor shown result
  pub answer : (image : Image) (tree : Tree) → IsPart shown image.at → IsVolume image tree → IsOpenAt tree dir links gap
      → (opens : OpenFiles) → Acts shown image tree opens (Create dir name new.mode new.uid new.gid new.moment) demanded result
  pub picks : PicksAsV7 shown demanded result
