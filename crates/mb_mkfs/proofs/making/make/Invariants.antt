use Rattle.std.proofs.Common.{◌≤◌}
use Rattle.mb_mkfs.specs.Volume.{fresh_block}
use Rattle.mb_mkfs.proofs.Overwriting.{AreOver}
use Rattle.mb_mkfs.proofs.making.make.Given as goal

abbrev pub invariant-loop-block : goal.invariant-loop-block
invariant-loop-block g l = record {
  over : AreOver (g.D.Disk.told l.fn.disk) (g.D.Disk.told l.disk) (fresh_block l.shape.s_isize l.shape.s_fsize) l.block l.blocks;
  later : g.D.Disk.faults l.fn.disk ≤ g.D.Disk.faults l.disk;
}
