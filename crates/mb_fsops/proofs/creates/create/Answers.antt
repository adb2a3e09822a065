use Rattle.mb_fsops.proofs.Creating.{created_at, name_asked, name_there, number_asked}
use Rattle.mb_fsops.proofs.creates.create.Goals as goal

pub returns-in-Open-clause-performs : goal.returns-in-Open-clause-performs
returns-in-Open-clause-performs g c = created_at c.args.dir c.args.name.now c.args.new.now (g.V.View.shown c.args.view.now) c.args.demanded c.in-Open.links c.in-Open.gap c.in-Open.ensures c.create_at.result c.create_at.ensures

pub returns-in-Slot-clause-performs : goal.returns-in-Slot-clause-performs
returns-in-Slot-clause-performs g c = name_there c.args.dir c.args.name.now c.args.new.now (g.V.View.shown c.args.view.now) c.args.demanded c.in-Slot.links c.in-Slot.at c.in-Slot.ino c.in-Slot.ensures

pub returns-in-Need-clause-performs : goal.returns-in-Need-clause-performs
returns-in-Need-clause-performs g c = name_asked c.args.dir c.args.name.now c.args.new.now (g.V.View.shown c.args.view.now) c.args.demanded c.in-Need.need c.in-Need.ensures

pub returns-in-Some-clause-performs : goal.returns-in-Some-clause-performs
returns-in-Some-clause-performs g c = number_asked c.args.dir c.args.name.now c.args.new.now (g.V.View.shown c.args.view.now) c.args.demanded c.new.result c.new.ensures c.in-Some.need c.in-Some.ensures
