use Rattle.std.proofs.Common.{◌≡◌, ◌≤◌, ◌+◌, length}
use Rattle.mb_iface.specs.OtherBlocks.{AreBlocks}
use Rattle.mb_file.proofs.frees.lacking_roots.Given as goal

abbrev pub invariant-loop-place : goal.invariant-loop-place
invariant-loop-place g l = AreBlocks l.others × (length l.others ≡ 15) × (l.count + 9 ≤ l.place)
