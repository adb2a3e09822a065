-- What the scan's first three parts say of a tree: all of a volume but its names and link counts.
use Rattle.std.specs.Prelude.{List, ℕ}
use Rattle.mb_kinds.specs.Image.{Image}
use Rattle.mb_tree.specs.Trees.{Each, HasKind, HasSize}
use Rattle.mb_tree.specs.declared.trees.Tree.{Tree}
use Rattle.mb_nodes.specs.Stored.{IsStored}

-- an image holds a tree, with this free chain; each mode names the kind of its body, and sizes are in their ranges
pub record IsShown (image : Image) (tree : Tree) (chain : List ℕ) : Type 0 where
  pub stored : IsStored image tree chain
  pub kinds : Each tree (λ ino node. HasKind node.mode node.body)
  pub sizes : Each tree (λ ino node. HasSize node.body)
