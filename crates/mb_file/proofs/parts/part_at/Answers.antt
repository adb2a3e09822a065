use Rattle.std.proofs.Common.{arith}
use Rattle.mb_file.proofs.Finding.{past_hole, found_block, far_hole, found_hole, asked_way}
use Rattle.mb_file.proofs.parts.part_at.Goals as goal

pub returns-then-part-ge2113674 : goal.returns-then-part-ge2113674
returns-then-part-ge2113674 g c = past_hole (g.V.View.shown c.args.view.now) c.args.changes.now c.args.ino c.args.part c.if-part-ge2113674.true

pub returns-then-block-ge262144 : goal.returns-then-block-ge262144
returns-then-block-ge262144 g c = far_hole (g.V.View.shown c.args.view.now) c.args.changes.now c.args.ino c.args.part (omega (arith, c.if-part-ge2113674.false)) c.in-At.block c.if-block-ge262144.true c.in-At.ensures

pub returns-else-block-ge262144 : goal.returns-else-block-ge262144
returns-else-block-ge262144 g c = found_block (g.V.View.shown c.args.view.now) c.args.changes.now c.args.ino c.args.part (omega (arith, c.if-part-ge2113674.false)) c.in-At.block (omega (arith, c.if-block-ge262144.false)) c.in-At.ensures

pub returns-in-Missing : goal.returns-in-Missing
returns-in-Missing g c = found_hole (g.V.View.shown c.args.view.now) c.args.changes.now c.args.ino c.args.part (omega (arith, c.if-part-ge2113674.false)) _ c.in-Missing.ensures

pub returns-in-Need : goal.returns-in-Need
returns-in-Need g c = asked_way (g.V.View.shown c.args.view.now) c.args.changes.now c.args.ino c.args.part (omega (arith, c.if-part-ge2113674.false)) c.in-Need.need c.in-Need.ensures
