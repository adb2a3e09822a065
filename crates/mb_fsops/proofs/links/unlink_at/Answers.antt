use Rattle.mb_fsops.proofs.Unlinking.{clear_asks, unlink_asks, unlink_done}
use Rattle.mb_fsops.proofs.links.unlink_at.Goals as goal

pub returns-in-Need : goal.returns-in-Need
returns-in-Need g c = clear_asks (g.V.View.shown c.args.view.now) c.new-changes.result c.clear_slot.new.changes c.new-changes.ensures c.args.opens.now c.args.dir c.args.name.now c.args.ino c.args.moment c.args.links c.args.at c.in-Need.need c.in-Need.ensures

pub returns-in-Done-lose_name : goal.returns-in-Done-lose_name
returns-in-Done-lose_name g c = unlink_done (g.V.View.shown c.args.view.now) c.new-changes.result c.clear_slot.new.changes c.new-changes.ensures c.args.opens.now c.args.dir c.args.name.now c.args.ino c.args.moment c.args.links c.args.at c.in-Done.ensures c.lose_name.new.changes c.in-Done-lose_name.ensures

pub returns-in-Need-lose_name : goal.returns-in-Need-lose_name
returns-in-Need-lose_name g c = unlink_asks (g.V.View.shown c.args.view.now) c.new-changes.result c.clear_slot.new.changes c.new-changes.ensures c.args.opens.now c.args.dir c.args.name.now c.args.ino c.args.moment c.args.links c.args.at c.in-Done.ensures c.lose_name.new.changes c.in-Need-lose_name.need c.in-Need-lose_name.ensures
