use Rattle.std.proofs.Common.{◌+◌, ◌*◌, arith}
use Rattle.mb_word.specs.Numbers.{long_at}
use Rattle.mb_layout.proofs.NumberLists.{listed_is}
use Rattle.mb_layout.proofs.arrays.longs_at.Goals as goal

pub returns : goal.returns
returns c = listed_is (λ k. long_at c.args.b.now (c.args.at + 4 * k)) c.loop-k.x-items 50 (omega arith) (λ k below. c.loop-k.invariant k (omega arith))
