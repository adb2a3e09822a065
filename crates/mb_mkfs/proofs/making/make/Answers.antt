use Rattle.std.proofs.Common.{arith}
use Rattle.mb_mkfs.proofs.Overwriting.{all_written}
use Rattle.mb_mkfs.proofs.making.make.Goals as goal

pub returns-clause-made : goal.returns-clause-made
returns-clause-made g c =
    all_written _ _ c.args.blocks c.args.inodes c.in-Some.ensures.sizes (g.met.D.Disk.sized c.loop-block.disk)
    _ _ c.loop-block.block c.in-Some.ensures.isize c.in-Some.ensures.fsize (omega arith) c.loop-block.invariant.over
