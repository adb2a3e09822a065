use Rattle.std.proofs.Common.{◌≡◌, ◌≤◌, length}
use Rattle.mb_iface.specs.OtherBlocks.{AreBlocks}
use Rattle.mb_namei.proofs.parts.others_of.Given as goal

abbrev pub invariant-loop-part : goal.invariant-loop-part
invariant-loop-part g l = AreBlocks l.others × (length l.others ≡ 15) × (l.count ≤ 15)
