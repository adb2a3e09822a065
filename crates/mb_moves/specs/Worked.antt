-- Worked examples of the inodes at which an operation looks.
use Rattle.std.specs.Prelude.{[], ◌∷◌, ◌≡◌, true, false, Some}
use Rattle.mb_tree.specs.declared.operations.FsOp.TheVariants.{Release, SetMode}
use Rattle.mb_tree.specs.declared.trees.Tree.{Tree}
use Rattle.mb_moves.specs.Looking.{and_one, is_led, touches}

-- a named inode is looked at, another is not, the inode at the end of a slot is, and so is one that is being made
pub record LookedAt (tree : Tree) : Type 0 where
  pub named : touches tree (SetMode 7 420 0) 7 ≡ true
  pub other : touches tree (SetMode 7 420 0) 8 ≡ false
  pub released : touches tree (Release (2 ∷ 9 ∷ [])) 9 ≡ true
  pub led : is_led (Some 9) 9 ≡ true
  pub new : and_one (λ ino. false) 5 5 ≡ true

abbrev pub WorkedLooks : Type 0
WorkedLooks = (tree : Tree) → LookedAt tree
