use Rattle.mb_fsops.proofs.Creating.{create_asks, create_done, create_refused}
use Rattle.mb_fsops.proofs.creates.create_at.Goals as goal

pub returns-in-Number : goal.returns-in-Number
returns-in-Number g c = create_done c.args.dir c.args.name.now c.args.new.now (g.V.View.shown c.args.view.now) c.new-changes.result c.create_in.new.changes c.new-changes.ensures c.args.links c.args.gap c.args.demanded c.in-Number.ino c.in-Number.ensures

pub returns-in-NoneLeft : goal.returns-in-NoneLeft
returns-in-NoneLeft g c = create_refused c.args.dir c.args.name.now c.args.new.now (g.V.View.shown c.args.view.now) c.new-changes.result c.create_in.new.changes c.new-changes.ensures c.args.links c.args.gap c.args.demanded c.in-NoneLeft.ensures

pub returns-in-Need : goal.returns-in-Need
returns-in-Need g c = create_asks c.args.dir c.args.name.now c.args.new.now (g.V.View.shown c.args.view.now) c.new-changes.result c.create_in.new.changes c.new-changes.ensures c.args.links c.args.gap c.args.demanded c.in-Need.need c.in-Need.ensures
