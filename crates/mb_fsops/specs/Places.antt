-- A name looked for in a directory of a volume, before anything changes.
use Rattle.std.specs.Prelude.{List, ℕ, ◌≡◌, Option, Some, None, position}
use Rattle.std.specs.FinMap as fin
use Rattle.mb_kinds.specs.Image.{Image}
use Rattle.mb_tree.specs.Lookup.{is_named, number_of}
use Rattle.mb_tree.specs.Views.{IsPart}
use Rattle.mb_tree.specs.Volume.{IsVolume}
use Rattle.mb_tree.specs.declared.nodes.Body.TheVariants.{Directory}
use Rattle.mb_tree.specs.declared.nodes.Node.{Node}
use Rattle.mb_tree.specs.declared.nodes.PlainSlot.{PlainSlot}
use Rattle.mb_tree.specs.declared.trees.Tree.{Tree}
use Rattle.mb_iface.specs.Near.{IsNear}
use Rattle.mb_iface.specs.Needs.{IsNeed}
use Rattle.mb_dirs.specs.Entering.{IsGap}
use Rattle.mb_dirs.specs.declared.enters.Gap.{Gap}
use Rattle.mb_fsops.specs.declared.places.NamePlace.{NamePlace}
use Rattle.mb_fsops.specs.declared.places.NamePlace.TheVariants as place

-- a directory of a tree, with its slots
pub record IsDirectoryWith (tree : Tree) (dir : ℕ) (node : Node) (slots : List PlainSlot) : Type 0 where
  pub has : fin.get tree.nodes dir ≡ Some node
  pub body : node.body ≡ Directory slots

-- what is said of the directory with the number on every volume of which the view is a part
abbrev pub OnDirectories : (ℕ → Option (List ℕ)) → ℕ → (Image → Tree → Node → List PlainSlot → Type 0) → Type 0
OnDirectories shown dir says = (image : Image) (tree : Tree) → IsPart shown image.at → IsVolume image tree
    → (node : Node) (slots : List PlainSlot) → IsDirectoryWith tree dir node slots → says image tree node slots

-- the used slot with the name: where it stands and where it leads
pub record IsSlotOf (slots : List PlainSlot) (name : List ℕ) (at ino : ℕ) : Type 0 where
  pub place : position (is_named name) slots ≡ Some at
  pub leads : number_of slots name ≡ Some ino

-- no used slot has the name; where it can be entered
pub record IsGapFor (slots : List PlainSlot) (name : List ℕ) (gap : Gap) : Type 0 where
  pub missing : number_of slots name ≡ None
  pub stands : IsGap slots gap

-- the place of a name, with the directory's link count
abbrev pub FindsName : (ℕ → Option (List ℕ)) → ℕ → List ℕ → NamePlace → Type 0
FindsName shown dir name (place.Slot links at ino) = OnDirectories shown dir (λ image tree node slots. (node.nlink ≡ links) × IsSlotOf slots name at ino)
FindsName shown dir name (place.Open links gap) = OnDirectories shown dir (λ image tree node slots. (node.nlink ≡ links) × IsGapFor slots name gap)
FindsName shown dir name (place.Need need) = IsNeed shown need × OnDirectories shown dir (λ image tree node slots. IsNear image tree (λ ino. ino ≡ dir) need.first)
