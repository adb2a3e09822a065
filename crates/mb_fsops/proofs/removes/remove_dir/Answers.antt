use Rattle.mb_fsops.proofs.Removing.{removal_missing, removal_searches, removed_at}
use Rattle.mb_fsops.proofs.removes.remove_dir.Goals as goal

pub returns-in-Slot : goal.returns-in-Slot
returns-in-Slot g c =
    removed_at c.args.dir c.args.name.now c.args.moment (g.V.View.shown c.args.view.now) c.in-Slot.links c.saturating_sub-less.result c.in-Slot.at c.in-Slot.ino c.saturating_sub-less.ensures c.in-Slot.ensures
    c.remove_dir_at.result c.remove_dir_at.ensures

pub returns-in-Open : goal.returns-in-Open
returns-in-Open g c = removal_missing c.args.dir c.args.name.now c.args.moment (g.V.View.shown c.args.view.now) c.in-Open.links c.in-Open.gap c.in-Open.ensures

pub returns-in-Need : goal.returns-in-Need
returns-in-Need g c = removal_searches c.args.dir c.args.name.now c.args.moment (g.V.View.shown c.args.view.now) c.in-Need.need c.in-Need.ensures
