use Rattle.std.proofs.Common.{◌-◌, length}
use Rattle.std.specs.List.Sorted.{IsPermutation}
use Rattle.mb_file.proofs.frees.arrange.Given as goal

abbrev pub invariant-loop-at : goal.invariant-loop-at
invariant-loop-at g l = IsPermutation l.fn.list.items l.list.items

abbrev pub decreases-loop-at : goal.decreases-loop-at
decreases-loop-at g l = length l.list.items - l.at
