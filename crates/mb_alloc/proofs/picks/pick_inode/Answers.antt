use Rattle.mb_alloc.proofs.Scanning.{picks_rest}
use Rattle.mb_alloc.proofs.picks.pick_inode.Goals as goal

pub returns-in-NoneLeft : goal.returns-in-NoneLeft
returns-in-NoneLeft g c = picks_rest (g.V.View.shown c.args.view.now) c.args.changes.now c.pick_cached.new.changes c.pick_listed.new.changes c.pick_listed.result c.in-NoneLeft.ensures c.pick_listed.ensures
