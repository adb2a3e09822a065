use Rattle.std.proofs.Common.{arith}
use Rattle.mb_copies.proofs.CopyLoops.{stored_more}
use Rattle.mb_copies.proofs.copies.Copies.store.Goals as goal

pub loop-at-preserved : goal.loop-at-preserved
loop-at-preserved c = record {
  copies = stored_more c.loop-at.self.items c.put.new.self.items c.args.reads.now _ c.loop-at.at _ _ c.loop-at.invariant.copies c.at-block.ensures c.put.ensures.items;
  room = omega (arith, c.put.ensures.spare, c.loop-at.invariant.room);
  within = c.loop-at.invariant.within;
}
