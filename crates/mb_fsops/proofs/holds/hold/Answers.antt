use Rattle.mb_fsops.proofs.Fields.{held}
use Rattle.mb_fsops.proofs.holds.hold.Goals as goal

pub returns-clause-performs : goal.returns-clause-performs
returns-clause-performs g c = held (g.V.View.shown c.args.view.now) c.new.result c.new.ensures c.args.ino
