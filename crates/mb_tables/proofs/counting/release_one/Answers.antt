use Rattle.std.proofs.Common.{arith}
use Rattle.mb_tables.proofs.OneCount.{none_less}
use Rattle.mb_tables.proofs.counting.release_one.Goals as goal

pub returns-then-count-eq0 : goal.returns-then-count-eq0
returns-then-count-eq0 c = none_less c.args.opens.now c.args.ino c.count-count.result c.count-count.ensures.list c.count-count.ensures.count (omega arith)
