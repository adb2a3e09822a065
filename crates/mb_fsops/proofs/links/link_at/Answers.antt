use Rattle.mb_fsops.proofs.Linking.{enter_asks, link_asks, link_done, link_full}
use Rattle.mb_fsops.proofs.links.link_at.Goals as goal

pub returns-in-Need : goal.returns-in-Need
returns-in-Need g c = link_asks (g.V.View.shown c.args.view.now) c.new-changes.result c.set_fields.new.changes c.new-changes.ensures c.args.dir c.args.name.now c.args.ino c.args.moment c.args.linked c.args.links c.args.gap c.in-Need.need c.in-Need.ensures

pub returns-in-Done-enter : goal.returns-in-Done-enter
returns-in-Done-enter g c = link_done (g.V.View.shown c.args.view.now) c.new-changes.result c.set_fields.new.changes c.new-changes.ensures c.args.dir c.args.name.now c.args.ino c.args.moment c.args.linked c.args.links c.args.gap c.in-Done.ensures c.enter.new.changes c.in-Done-enter.ensures

pub returns-in-NoneLeft : goal.returns-in-NoneLeft
returns-in-NoneLeft g c = link_full (g.V.View.shown c.args.view.now) c.new-changes.result c.set_fields.new.changes c.new-changes.ensures c.args.dir c.args.name.now c.args.ino c.args.moment c.args.linked c.args.links c.args.gap c.in-Done.ensures c.enter.new.changes c.in-NoneLeft.ensures

pub returns-in-Need-enter : goal.returns-in-Need-enter
returns-in-Need-enter g c = enter_asks (g.V.View.shown c.args.view.now) c.new-changes.result c.set_fields.new.changes c.new-changes.ensures c.args.dir c.args.name.now c.args.ino c.args.moment c.args.linked c.args.links c.args.gap c.in-Done.ensures c.enter.new.changes c.in-Need-enter.need c.in-Need-enter.ensures
