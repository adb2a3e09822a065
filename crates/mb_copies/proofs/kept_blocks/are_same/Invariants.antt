use Rattle.std.proofs.Common.{◌≡◌, ◌&&◌, drop, bytes_eq}
use Rattle.mb_copies.proofs.kept_blocks.are_same.Given as goal

abbrev pub invariant-loop-at : goal.invariant-loop-at
invariant-loop-at l = (l.same && bytes_eq (drop l.at l.left) (drop l.at l.right)) ≡ bytes_eq l.left l.right
