use Rattle.mb_dirs.proofs.Choosing.{picked_number, none_picked, pick_asks}
use Rattle.mb_dirs.proofs.choices.pick_number.Goals as goal

pub returns-in-Ino : goal.returns-in-Ino
returns-in-Ino g c = picked_number (g.V.View.shown c.args.view.now) c.args.changes.now c.pick_inode.new.changes c.in-Ino.ino c.in-Ino.ensures

pub returns-in-NoneLeft : goal.returns-in-NoneLeft
returns-in-NoneLeft g c = none_picked (g.V.View.shown c.args.view.now) c.args.changes.now c.pick_inode.new.changes c.in-NoneLeft.ensures

pub returns-in-Need : goal.returns-in-Need
returns-in-Need g c = pick_asks (g.V.View.shown c.args.view.now) c.args.changes.now c.pick_inode.new.changes c.in-Need.need c.in-Need.ensures
