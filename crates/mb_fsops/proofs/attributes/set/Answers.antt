use Rattle.mb_fsops.proofs.Fields.{fields_ask, fields_done}
use Rattle.mb_fsops.proofs.attributes.set.Goals as goal

pub returns-in-Done : goal.returns-in-Done
returns-in-Done g c = fields_done (g.V.View.shown c.args.view.now) c.new-changes.result c.set_fields.new.changes c.new-changes.ensures c.args.ino c.args.change.now c.in-Done.ensures

pub returns-in-Need : goal.returns-in-Need
returns-in-Need g c = fields_ask (g.V.View.shown c.args.view.now) c.new-changes.result c.set_fields.new.changes c.new-changes.ensures c.args.ino c.args.change.now c.in-Need.need c.in-Need.ensures
