use Rattle.mb_fsops.proofs.Removing.{clear_asks, removal_asks, removal_done}
use Rattle.mb_fsops.proofs.removes.remove_dir_at.Goals as goal

pub returns-in-Need : goal.returns-in-Need
returns-in-Need g c =
    clear_asks c.args.dir c.args.name.now c.args.moment c.args.links c.args.at c.args.ino (g.V.View.shown c.args.view.now) c.new-changes.result c.clear_slot.new.changes c.new-changes.ensures c.in-Need.need c.in-Need.ensures

pub returns-in-Done-erase_in : goal.returns-in-Done-erase_in
returns-in-Done-erase_in g c =
    removal_done c.args.dir c.args.name.now c.args.moment c.args.links c.args.at c.args.ino (g.V.View.shown c.args.view.now) c.new-changes.result c.clear_slot.new.changes c.new-changes.ensures
    c.in-Done.ensures c.erase_in.new.changes c.in-Done-erase_in.ensures

pub returns-in-Need-erase_in : goal.returns-in-Need-erase_in
returns-in-Need-erase_in g c =
    removal_asks c.args.dir c.args.name.now c.args.moment c.args.links c.args.at c.args.ino (g.V.View.shown c.args.view.now) c.new-changes.result c.clear_slot.new.changes c.new-changes.ensures
    c.in-Done.ensures c.erase_in.new.changes c.in-Need-erase_in.need c.in-Need-erase_in.ensures
