-- A step of an operation, from blocks that store a tree to blocks that store the next one, with what is near.
use Rattle.std.specs.Prelude.{List, ℕ, ◌<◌, ◌≡◌, Bool, true, Option}
use Rattle.mb_kinds.specs.Image.{Image}
use Rattle.mb_tree.specs.Views.{over, IsPart}
use Rattle.mb_tree.specs.declared.trees.Tree.{Tree}
use Rattle.mb_iface.specs.Acting.{with_changes}
use Rattle.mb_kinds.specs.Changed.{ChangeList, changed}
use Rattle.mb_iface.specs.Near.{IsNear}
use Rattle.mb_nodes.specs.Stored.{IsStored, Follows}

-- a block near the inodes that an operation looks at
abbrev pub IsNearTo : Image → Tree → (ℕ → Bool) → ℕ → Type 0
IsNearTo image tree looks block = IsNear image tree (λ ino. looks ino ≡ true) block

-- the next tree is stored, what a volume keeps is kept, and a block that is near now was near before
pub record Advances (image : Image) (tree : Tree) (looks : ℕ → Bool) (now : ℕ → List ℕ) (next : Tree) (left : List ℕ) : Type 0 where
  pub follows : Follows image tree now next left
  pub near : (block : ℕ) → 0 < block → IsNearTo (record image { at = now }) next looks block → IsNearTo image tree looks block

-- what a step says of every image of which the view is a part, and which under the changes stores a tree
abbrev pub OnStored : (ℕ → Option (List ℕ)) → ChangeList → (Image → Tree → List ℕ → Type 0) → Type 0
OnStored shown old says = (image : Image) (tree : Tree) (chain : List ℕ) → IsPart shown image.at → IsStored (with_changes image old) tree chain → says image tree chain

-- under the new changes the next tree is stored
abbrev pub AdvancesTo : Image → Tree → (ℕ → Bool) → ChangeList → ChangeList → Tree → Type 0
AdvancesTo image tree looks old new next = (left : List ℕ) × Advances (with_changes image old) tree looks (over image.at (changed new)) next left
