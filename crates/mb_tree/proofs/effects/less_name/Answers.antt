use Rattle.std.proofs.Common.{sym}
use Rattle.mb_tree.specs.Sessions.{counts}
use Rattle.mb_tree.proofs.Changed.{unlost, not_there}
use Rattle.mb_tree.proofs.effects.less_name.Goals as goal

pub returns-in_default : goal.returns-in_default
returns-in_default c = not_there (counts c.args.seats.now) c.args.moment c.args.nodes.now c.remove.new.self c.args.ino c.from-key.result c.from-key.ensures (sym c.in_default.ensures.before) c.in_default.ensures.removed

pub returns : goal.returns
returns c = unlost (counts c.args.seats.now) c.args.moment c.args.nodes.now c.remove.new.self c.insert.new.self c.args.ino c.from-key.result c.in-Some.node c.unlinked-node.result
    c.from-key.ensures (sym c.in-Some.ensures.before) c.in-Some.ensures.removed c.unlinked-node.ensures (sym c.if-is_unheld.ensures) c.in_ok-insert.ensures.ok
