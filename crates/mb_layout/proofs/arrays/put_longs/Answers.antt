use Rattle.std.proofs.Common.{arith}
use Rattle.mb_layout.proofs.NumberLists.{longs_none, longs_put, longs_all}
use Rattle.mb_layout.proofs.arrays.put_longs.Goals as goal

pub loop-k-init : goal.loop-k-init
loop-k-init c = longs_none c.args.b.now c.args.at c.args.list.now

pub loop-k-preserved : goal.loop-k-preserved
loop-k-preserved c = longs_put c.args.b.now c.args.at c.args.list.now c.loop-k.b c.put_long.new.b c.loop-k.k (omega arith) (omega arith) c.loop-k.invariant c.put_long.ensures

pub returns-clause-bytes : goal.returns-clause-bytes
returns-clause-bytes c = longs_all c.args.b.now c.args.at c.args.list.now c.loop-k.b c.loop-k.k (omega arith) c.loop-k.invariant
