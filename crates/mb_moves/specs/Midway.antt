-- An inode within a step, whose blocks lead on while no tree is stored: what may be asked for, and that it was near.
use Rattle.std.specs.Prelude.{List, ℕ, ◌<◌, Bool}
use Rattle.mb_kinds.specs.Image.{Image}
use Rattle.mb_tree.specs.declared.trees.Tree.{Tree}
use Rattle.mb_blocks.specs.Laid.{IsHad}
use Rattle.mb_bmap.specs.Reaching.{IsReady}
use Rattle.mb_moves.specs.Advancing.{IsNearTo}

-- parts of an inode can be reached, and whatever the inodes that has says hold now, or is free, was near to the tree
-- before the step
pub record IsMidway (image : Image) (tree : Tree) (looks : ℕ → Bool) (has : ℕ → Bool) (now : ℕ → List ℕ) (ino : ℕ) : Type 0 where
  pub left : List ℕ
  pub ready : IsReady has now left ino
  pub near : (block : ℕ) → 0 < block → IsHad has now left block → IsNearTo image tree looks block
