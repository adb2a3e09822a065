-- What a step of an operation at one inode says, of every image of which the view is a part and which under the changes
-- stores a tree.
use Rattle.std.specs.Prelude.{List, ℕ, ◌≤◌, ◌≡◌, Bool, true, Option, Some, None}
use Rattle.std.specs.FinMap as fin
use Rattle.mb_kinds.specs.Image.{Image}
use Rattle.mb_tree.specs.declared.nodes.Body.TheVariants.{Directory}
use Rattle.mb_tree.specs.declared.nodes.Node.{Node}
use Rattle.mb_tree.specs.declared.nodes.PlainSlot.{PlainSlot}
use Rattle.mb_tree.specs.declared.trees.Tree.{Tree}
use Rattle.mb_iface.specs.Acting.{with_changes}
use Rattle.mb_kinds.specs.Changed.{ChangeList}
use Rattle.mb_moves.specs.Advancing.{OnStored, IsNearTo}

-- of a tree that has a node with the number
abbrev pub OnNode : (ℕ → Option (List ℕ)) → ChangeList → ℕ → (Image → Tree → (ℕ → Bool) → Node → Type 0) → Type 0
OnNode shown old ino says = OnStored shown old (λ image tree chain. (looks : ℕ → Bool) (node : Node) → fin.get tree.nodes ino ≡ Some node → says image tree looks node)

-- a directory at which the operation looks
pub record IsLookedThrough (tree : Tree) (looks : ℕ → Bool) (dir : ℕ) (node : Node) (slots : List PlainSlot) : Type 0 where
  pub has : fin.get tree.nodes dir ≡ Some node
  pub body : node.body ≡ Directory slots
  pub looked_at : looks dir ≡ true

abbrev pub OnSlots : (ℕ → Option (List ℕ)) → ChangeList → ℕ → (Image → Tree → (ℕ → Bool) → Node → List PlainSlot → Type 0) → Type 0
OnSlots shown old dir says = OnStored shown old (λ image tree chain. (looks : ℕ → Bool) (node : Node) (slots : List PlainSlot) → IsLookedThrough tree looks dir node slots → says image tree looks node slots)

-- a free inode of the i-list
pub record IsUnusedIn (tree : Tree) (ino : ℕ) : Type 0 where
  pub some : 1 ≤ ino
  pub within : ino ≤ tree.last
  pub unused : fin.get tree.nodes ino ≡ None

abbrev pub OnUnused : (ℕ → Option (List ℕ)) → ChangeList → ℕ → (Image → Tree → (ℕ → Bool) → Type 0) → Type 0
OnUnused shown old ino says = OnStored shown old (λ image tree chain. (looks : ℕ → Bool) → IsUnusedIn tree ino → says image tree looks)

-- what is asked for was near before the step
abbrev pub IsNearFirst : ChangeList → ℕ → Image → Tree → (ℕ → Bool) → Type 0
IsNearFirst old block image tree looks = IsNearTo (with_changes image old) tree looks block
