use Rattle.mb_dirs.proofs.SlotRewriting.{both, touch_needs}
use Rattle.mb_dirs.proofs.enters.rewrite_slot.Goals as goal

pub returns-in-Done : goal.returns-in-Done
returns-in-Done g c = both (g.V.View.shown c.args.view.now) c.args.changes.now c.set_fields.new.changes c.args.dir c.args.links c.args.moment c.in-Done.ensures c.set_slot.new.changes c.args.at c.args.name.now c.args.ino c.set_slot.result c.set_slot.ensures

pub returns-in-Need : goal.returns-in-Need
returns-in-Need g c = touch_needs (g.V.View.shown c.args.view.now) c.args.changes.now c.set_fields.new.changes c.set_fields.new.changes c.args.dir c.args.links c.args.moment c.args.at c.args.name.now c.args.ino c.in-Need.need c.in-Need.ensures
