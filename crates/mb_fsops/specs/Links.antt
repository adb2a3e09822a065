-- A name entered for an inode, and a name taken from one: what their second halves promise, once the directory was
-- searched.
use Rattle.std.specs.Prelude.{List, ℕ, ◌+◌, ◌<◌, ◌≡◌, Bool, ◌&&◌, ◌==◌, Option, Some}
use Rattle.std.specs.FinMap as fin
use Rattle.mb_kinds.specs.Image.{Image}
use Rattle.mb_tree.specs.Effect.{less_name}
use Rattle.mb_tree.specs.Views.{IsPart}
use Rattle.mb_tree.specs.Volume.{IsVolume}
use Rattle.mb_tree.specs.declared.nodes.Node.{Node}
use Rattle.mb_tree.specs.declared.nodes.PlainSlot.{PlainSlot}
use Rattle.mb_tree.specs.declared.operations.FsOp.TheVariants.{Enlink, Delink}
use Rattle.mb_tree.specs.declared.trees.Tree.{Tree}
use Rattle.mb_iface.specs.Acting.{Acts, with_changes}
use Rattle.mb_kinds.specs.Changed.{ChangeList, IsWithinView}
use Rattle.mb_iface.specs.Needs.{ActsFor, IsNeed}
use Rattle.mb_iface.specs.OpenCounts.{count_of}
use Rattle.mb_iface.specs.declared.replies.Acted.{Acted}
use Rattle.mb_alloc.specs.declared.frees.Hung.{Hung}
use Rattle.mb_alloc.specs.declared.frees.Hung.TheVariants as hung
use Rattle.mb_moves.specs.Advancing.{AdvancesTo, IsNearTo}
use Rattle.mb_dirs.specs.Entering.{IsGap}
use Rattle.mb_dirs.specs.declared.enters.Gap.{Gap}
use Rattle.mb_file.specs.Erasing.{OnErasable}
use Rattle.mb_fsops.specs.Performing.{OpenFiles}
use Rattle.mb_fsops.specs.Places.{IsDirectoryWith, IsSlotOf}

-- whether an inode with so many links and so many open files is lost
abbrev pub lost_with : ℕ → ℕ → Bool
lost_with links files = links == 0 && files == 0

-- where a name of an inode goes, and how many links the inode and the directory have then
pub record IsLinkable (tree : Tree) (dir ino linked links : ℕ) (gap : Gap) : Type 0 where
  pub node : Node
  pub has : fin.get tree.nodes ino ≡ Some node
  pub more : linked ≡ node.nlink + 1
  pub few : node.nlink < 32767
  pub parent : Node
  pub slots : List PlainSlot
  pub directory : IsDirectoryWith tree dir parent slots
  pub same : parent.nlink ≡ links
  pub stands : IsGap slots gap

-- the operation on every volume on which the name goes there
pub record LinksAt (shown : ℕ → Option (List ℕ)) (dir : ℕ) (name : List ℕ) (ino moment linked links : ℕ) (gap : Gap) (result : Acted) : Type 0 where
  pub need : ActsFor shown result
  pub answer : (image : Image) (tree : Tree) → IsPart shown image.at → IsVolume image tree → IsLinkable tree dir ino linked links gap
      → (opens : OpenFiles) (demanded : Option ℕ) → Acts shown image tree opens (Enlink dir name ino moment) demanded result

-- where a name stands
pub record IsUnlinkable (tree : Tree) (dir : ℕ) (name : List ℕ) (ino links at : ℕ) : Type 0 where
  pub parent : Node
  pub slots : List PlainSlot
  pub directory : IsDirectoryWith tree dir parent slots
  pub same : parent.nlink ≡ links
  pub slot : IsSlotOf slots name at ino

pub record UnlinksAt (shown : ℕ → Option (List ℕ)) (opens : OpenFiles) (dir : ℕ) (name : List ℕ) (ino moment links at : ℕ) (result : Acted) : Type 0 where
  pub need : ActsFor shown result
  pub answer : (image : Image) (tree : Tree) → IsPart shown image.at → IsVolume image tree → IsUnlinkable tree dir name ino links at
      → (demanded : Option ℕ) → Acts shown image tree opens (Delink dir name moment) demanded result

-- an inode that lost a name: gone where it has no other and is not open
abbrev pub LosesName : (ℕ → Option (List ℕ)) → ChangeList → ChangeList → OpenFiles → ℕ → ℕ → Hung → Type 0
LosesName shown old new opens ino moment hung.Done = (IsWithinView shown old → IsWithinView shown new)
    × OnErasable shown old ino (λ image tree looks. AdvancesTo image tree looks old new (record tree { nodes = less_name tree.nodes (count_of opens) moment ino }))
LosesName shown old new opens ino moment (hung.Need need) = IsNeed shown need × OnErasable shown old ino (λ image tree looks. IsNearTo (with_changes image old) tree looks need.first)
LosesName shown old new opens ino moment hung.NoMemory = Unit {0}
