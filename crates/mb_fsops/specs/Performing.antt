-- What the function of an operation promises, and the parts of which operations are made.
use Rattle.std.specs.Prelude.{List, ℕ, Option}
use Rattle.std.specs.FinMap as fin
use Rattle.std.specs.Ordering.{nat_cmp}
use Rattle.mb_kinds.specs.Image.{Image}
use Rattle.mb_tree.specs.Views.{IsPart}
use Rattle.mb_tree.specs.Volume.{IsVolume}
use Rattle.mb_tree.specs.declared.operations.FsOp.{FsOp}
use Rattle.mb_tree.specs.declared.trees.Tree.{Tree}
use Rattle.mb_iface.specs.Acting.{Acts}
use Rattle.mb_iface.specs.Needs.{ActsFor}
use Rattle.mb_iface.specs.declared.replies.Acted.{Acted}

-- the counts of open files
abbrev pub OpenFiles : Type 0
OpenFiles = fin.FinMap nat_cmp ℕ

-- what a file system promises of its answer to an operation: what is asked for is lacking in whatever view, and on
-- every volume of which the view is a part the answer is the reference tree's
pub record Performs (shown : ℕ → Option (List ℕ)) (opens : OpenFiles) (op : FsOp) (demanded : Option ℕ) (result : Acted) : Type 0 where
  pub need : ActsFor shown result
  pub answer : (image : Image) (tree : Tree) → IsPart shown image.at → IsVolume image tree → Acts shown image tree opens op demanded result

-- of an operation that makes no inode: whatever number is demanded
abbrev pub PerformsAlways : (ℕ → Option (List ℕ)) → OpenFiles → FsOp → Acted → Type 0
PerformsAlways shown opens op result = (demanded : Option ℕ) → Performs shown opens op demanded result

-- and of one that does not look at the counts of open files, either
abbrev pub PerformsAnyway : (ℕ → Option (List ℕ)) → FsOp → Acted → Type 0
PerformsAnyway shown op result = (opens : OpenFiles) (demanded : Option ℕ) → Performs shown opens op demanded result
