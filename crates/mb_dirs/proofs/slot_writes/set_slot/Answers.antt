use Rattle.mb_dirs.proofs.SlotSetting.{too_far, no_block, way_asked, far_block, slot_done, slot_asked}
use Rattle.mb_dirs.proofs.slot_writes.set_slot.Goals as goal

pub returns-then-at-ge67637568 : goal.returns-then-at-ge67637568
returns-then-at-ge67637568 g c = too_far (g.V.View.shown c.args.view.now) c.args.changes.now c.args.dir c.args.at c.args.name.now c.args.ino c.if-at-ge67637568.true

pub returns-in-Missing : goal.returns-in-Missing
returns-in-Missing g c = no_block (g.V.View.shown c.args.view.now) c.args.changes.now c.args.dir c.args.at c.args.name.now c.args.ino c.if-at-ge67637568.false _ c.in-Missing.ensures

pub returns-in-Need : goal.returns-in-Need
returns-in-Need g c = way_asked (g.V.View.shown c.args.view.now) c.args.changes.now c.args.dir c.args.at c.args.name.now c.args.ino c.if-at-ge67637568.false c.in-Need.need c.in-Need.ensures

pub returns-then-block-ge262144 : goal.returns-then-block-ge262144
returns-then-block-ge262144 g c = far_block (g.V.View.shown c.args.view.now) c.args.changes.now c.args.dir c.args.at c.args.name.now c.args.ino c.if-at-ge67637568.false c.in-At.block c.in-At.ensures c.if-block-ge262144.true

pub returns-in-Done : goal.returns-in-Done
returns-in-Done g c = slot_done (g.V.View.shown c.args.view.now) c.args.changes.now c.args.dir c.args.at c.args.name.now c.args.ino c.if-at-ge67637568.false c.in-At.block c.in-At.ensures c.put_slot.new.changes c.in-Done.ensures

pub returns-in-Lacking : goal.returns-in-Lacking
returns-in-Lacking g c = slot_asked (g.V.View.shown c.args.view.now) c.args.changes.now c.args.dir c.args.at c.args.name.now c.args.ino c.if-at-ge67637568.false c.in-At.block c.in-At.ensures c.one.result (c.one.ensures.need (g.V.View.shown c.args.view.now) c.in-Lacking.ensures) c.one.ensures.first
