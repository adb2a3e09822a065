use Rattle.mb_fsops.proofs.Unlinking.{unlink_missing, unlink_searches, unlinked_at}
use Rattle.mb_fsops.proofs.links.delink.Goals as goal

pub returns-in-Slot : goal.returns-in-Slot
returns-in-Slot g c = unlinked_at (g.V.View.shown c.args.view.now) c.args.opens.now c.args.dir c.args.name.now c.args.moment c.in-Slot.links c.in-Slot.at c.in-Slot.ino c.in-Slot.ensures c.unlink_at.result c.unlink_at.ensures

pub returns-in-Open : goal.returns-in-Open
returns-in-Open g c = unlink_missing (g.V.View.shown c.args.view.now) c.args.opens.now c.args.dir c.args.name.now c.args.moment c.in-Open.links c.in-Open.gap c.in-Open.ensures

pub returns-in-Need : goal.returns-in-Need
returns-in-Need g c = unlink_searches (g.V.View.shown c.args.view.now) c.args.opens.now c.args.dir c.args.name.now c.args.moment c.in-Need.need c.in-Need.ensures
