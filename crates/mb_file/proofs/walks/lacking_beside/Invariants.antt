use Rattle.std.proofs.Common.{◌≡◌, ◌≤◌, length}
use Rattle.mb_iface.specs.OtherBlocks.{AreBlocks}
use Rattle.mb_file.proofs.walks.lacking_beside.Given as goal

abbrev pub invariant-loop-more : goal.invariant-loop-more
invariant-loop-more g l = AreBlocks l.others × (length l.others ≡ 15) × (l.count ≤ 15)
