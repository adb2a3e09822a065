-- What folding keeps, each the contract of a function without a body.
use Rattle.std.specs.Prelude.{List, ℕ, ◌≤◌, length}
use Rattle.mb_tree.specs.Effect.{TreeAndOpens}
use Rattle.mb_tree.specs.CarriedOut.{AreCarriedOut, FindFewOpens, PickedOp}
use Rattle.mb_folds.specs.Folded.{folded}

-- the folded list is carried out wherever the list is, to the same tree and the same counts of open files: each of its
-- operations fits, and none is refused on the way
abbrev pub FoldedLeads : Type 0
FoldedLeads = (held last : TreeAndOpens) (ops : List PickedOp) → AreCarriedOut held ops last → AreCarriedOut held (folded ops) last

-- and finds no more open files on the way
abbrev pub FoldedFindsFew : Type 0
FoldedFindsFew = (most : ℕ) (held last : TreeAndOpens) (ops : List PickedOp) → AreCarriedOut held ops last → FindFewOpens most held ops → FindFewOpens most held (folded ops)

-- folding makes no list longer
abbrev pub FoldedIsShort : Type 0
FoldedIsShort = (ops : List PickedOp) → length (folded ops) ≤ length ops
