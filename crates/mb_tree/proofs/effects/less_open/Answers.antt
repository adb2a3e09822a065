use Rattle.std.proofs.Common.{◌∙◌, sym, arith}
use Rattle.mb_tree.proofs.Released.{one_dropped, all_dropped}
use Rattle.mb_tree.proofs.effects.less_open.Goals as goal

pub loop-ino-preserved : goal.loop-ino-preserved
loop-ino-preserved c = one_dropped c.args.tree.now.nodes _ c.args.inos.now c.loop-ino.nodes c.remove-node.new.self c.loop-ino.ino-index 0 c.from.result c.loop-ino-test.true c.from.ensures (sym c.is_lost.ensures ∙ c.if-not-is_lost.false) c.remove-node.ensures.removed c.loop-ino.invariant

pub returns : goal.returns
returns c = all_dropped c.args.tree.now.nodes _ c.args.inos.now c.loop-ino.nodes c.loop-ino.ino-index (omega arith) c.loop-ino.invariant
