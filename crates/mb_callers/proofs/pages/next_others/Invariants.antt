use Rattle.std.proofs.Common.{◌≡◌, length}
use Rattle.mb_iface.specs.OtherBlocks.{AreBlocks}
use Rattle.mb_callers.proofs.pages.next_others.Given as goal

abbrev pub invariant-loop-place : goal.invariant-loop-place
invariant-loop-place l = AreBlocks l.others × (length l.others ≡ 15)
