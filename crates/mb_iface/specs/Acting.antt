-- What an answer to an operation says on a volume: with the changes over it the image is a volume of
-- the tree after the operation's effect.
use Rattle.std.specs.Prelude.{List, [], ℕ, ◌≡◌, Bool, true, false, Option, Some, None, Ok, Err, MatchOption}
use Rattle.std.specs.FinMap as fin
use Rattle.std.specs.Ordering.{nat_cmp}
use Rattle.mb_kinds.specs.Image.{Image}
use Rattle.mb_kinds.specs.declared.errors.Errno.{Errno}
use Rattle.mb_tree.specs.Effect.{TreeAndOpens, effect}
use Rattle.mb_tree.specs.Fits.{Fits}
use Rattle.mb_tree.specs.PickLaws.{makes_inode}
use Rattle.mb_tree.specs.Step.{IsFreeNumber}
use Rattle.mb_tree.specs.Views.{over, Kept}
use Rattle.mb_tree.specs.Volume.{IsVolume}
use Rattle.mb_tree.specs.declared.operations.FsOp.{FsOp}
use Rattle.mb_tree.specs.declared.operations.FsOp.TheVariants.{Hold}
use Rattle.mb_tree.specs.declared.trees.Tree.{Tree}
use Rattle.mb_iface.specs.declared.replies.Acted.{Acted}
use Rattle.mb_iface.specs.declared.replies.Acted.TheVariants as acted
use Rattle.mb_kinds.specs.Changed.{ChangeList, changed, IsWithinView}
use Rattle.mb_iface.specs.Near.{IsNear, IsTouched}
use Rattle.mb_iface.specs.OpenCounts.{count_of}

-- an image with changes over it
abbrev pub with_changes : Image → ChangeList → Image
with_changes image changes = record image { at = over image.at (changed changes) }

-- the number with which an operation is done: where it makes an inode the demanded one, else a free
-- one, as long as there is one
abbrev pub PicksNumber : Tree → Option ℕ → Option ℕ → Type 0
PicksNumber tree (Some demanded) picked = picked ≡ Some demanded
PicksNumber tree None picked = MatchOption picked ((ino : ℕ) → IsFreeNumber tree ino → ⊥) (IsFreeNumber tree)

abbrev pub PicksIf : Bool → Tree → Option ℕ → Option ℕ → Type 0
PicksIf true tree demanded picked = PicksNumber tree demanded picked
PicksIf false tree demanded picked = picked ≡ None

abbrev pub Picks : Tree → FsOp → Option ℕ → Option ℕ → Type 0
Picks tree op demanded picked = PicksIf (makes_inode op) tree demanded picked

-- an operation done
pub record HasDone (shown : ℕ → Option (List ℕ)) (image : Image) (tree : Tree) (opens : ℕ → ℕ) (op : FsOp) (demanded : Option ℕ) (changes : ChangeList) (picked : Option ℕ) : Type 0 where
  pub picks : Picks tree op demanded picked
  pub held : TreeAndOpens
  pub effect : effect tree opens op picked ≡ Ok held
  pub volume : IsVolume (with_changes image changes) held.tree
  pub kept : Kept tree image held.tree (with_changes image changes)
  pub within : IsWithinView shown changes

-- an operation refused
pub record HasRefused (tree : Tree) (opens : ℕ → ℕ) (op : FsOp) (demanded : Option ℕ) (e : Errno) : Type 0 where
  pub picked : Option ℕ
  pub picks : Picks tree op demanded picked
  pub effect : effect tree opens op picked ≡ Err e

-- a file system's answer on a volume of the tree; of an operation that does not fit nothing is promised
abbrev pub Acts : (ℕ → Option (List ℕ)) → Image → Tree → fin.FinMap nat_cmp ℕ → FsOp → Option ℕ → Acted → Type 0
Acts shown image tree opens op demanded (acted.Done changes picked) = Fits tree (count_of opens) op demanded → HasDone shown image tree (count_of opens) op demanded changes picked
Acts shown image tree opens op demanded (acted.Refused e) = Fits tree (count_of opens) op demanded → HasRefused tree (count_of opens) op demanded e
Acts shown image tree opens op demanded (acted.Need need) = Fits tree (count_of opens) op demanded → IsNear image tree (IsTouched tree op) need.first
Acts shown image tree opens op demanded acted.NoMemory = Unit {0}

-- that of an operation which makes no inode and asks for no count: whatever is given of them
abbrev pub ActsWhatever : (ℕ → Option (List ℕ)) → Image → Tree → FsOp → Acted → Type 0
ActsWhatever shown image tree op acted = (opens : fin.FinMap nat_cmp ℕ) (demanded : Option ℕ) → Acts shown image tree opens op demanded acted

-- holding a file open changes no block
abbrev pub KeepsIfHold : FsOp → ChangeList → Type 0
KeepsIfHold (Hold ino) changes = changes ≡ []
KeepsIfHold op changes = Unit {0}

abbrev pub KeepsWhereHeld : FsOp → Acted → Type 0
KeepsWhereHeld op (acted.Done changes picked) = KeepsIfHold op changes
KeepsWhereHeld op answer = Unit {0}
