use Rattle.std.proofs.Common.{◌+◌, ◌*◌, arith}
use Rattle.mb_word.specs.Numbers.{word_at}
use Rattle.mb_layout.proofs.NumberLists.{listed_is}
use Rattle.mb_layout.proofs.arrays.words_at.Goals as goal

pub returns : goal.returns
returns c = listed_is (λ k. word_at c.args.b.now (c.args.at + 2 * k)) c.loop-k.x-items 100 (omega arith) (λ k below. c.loop-k.invariant k (omega arith))
