use Rattle.mb_fsops.proofs.MakingDirs.{dir_asks, dir_made, dir_refused}
use Rattle.mb_fsops.proofs.directories.make_dir_at.Goals as goal

pub returns-in-Number : goal.returns-in-Number
returns-in-Number g c = dir_made c.args.dir c.args.name.now c.args.new.now (g.V.View.shown c.args.view.now) c.new-changes.result c.make_directory_in.new.changes c.new-changes.ensures c.args.links c.args.gap c.args.demanded c.in-Number.ino c.in-Number.ensures

pub returns-in-NoneLeft : goal.returns-in-NoneLeft
returns-in-NoneLeft g c = dir_refused c.args.dir c.args.name.now c.args.new.now (g.V.View.shown c.args.view.now) c.new-changes.result c.make_directory_in.new.changes c.new-changes.ensures c.args.links c.args.gap c.args.demanded c.in-NoneLeft.ensures

pub returns-in-Need : goal.returns-in-Need
returns-in-Need g c = dir_asks c.args.dir c.args.name.now c.args.new.now (g.V.View.shown c.args.view.now) c.new-changes.result c.make_directory_in.new.changes c.new-changes.ensures c.args.links c.args.gap c.args.demanded c.in-Need.need c.in-Need.ensures
