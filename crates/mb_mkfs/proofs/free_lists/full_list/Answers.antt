use Rattle.std.proofs.Common.{arith}
use Rattle.mb_layout.proofs.NumberLists.{listed_is}
use Rattle.mb_mkfs.specs.FreeLists.{number_at}
use Rattle.mb_mkfs.proofs.free_lists.full_list.Goals as goal

pub returns : goal.returns
returns c = listed_is (number_at c.args.top c.args.next 49) c.loop-k.number-items 50 (omega arith) (λ k below. c.loop-k.invariant k (omega arith))
