use Rattle.std.proofs.Common.{arith}
use Rattle.mb_layout.proofs.NumberLists.{words_none, words_put, words_all}
use Rattle.mb_layout.proofs.arrays.put_words.Goals as goal

pub loop-k-init : goal.loop-k-init
loop-k-init c = words_none c.args.b.now c.args.at c.args.list.now

pub loop-k-preserved : goal.loop-k-preserved
loop-k-preserved c = words_put c.args.b.now c.args.at c.args.list.now c.loop-k.b c.put_word.new.b c.loop-k.k (omega arith) (omega arith) c.loop-k.invariant c.put_word.ensures

pub returns-clause-bytes : goal.returns-clause-bytes
returns-clause-bytes c = words_all c.args.b.now c.args.at c.args.list.now c.loop-k.b c.loop-k.k (omega arith) c.loop-k.invariant
