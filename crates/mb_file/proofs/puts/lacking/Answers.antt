use Rattle.mb_file.proofs.PuttingWhole.{own_wanted, free_wanted}
use Rattle.mb_file.proofs.puts.lacking.Goals as goal

pub returns-in-Missing : goal.returns-in-Missing
returns-in-Missing g c = free_wanted (g.V.View.shown c.args.view.now) c.args.changes.now c.args.ino c.lacking_free.result c.lacking_free.ensures

pub returns-in-Need : goal.returns-in-Need
returns-in-Need g c = own_wanted (g.V.View.shown c.args.view.now) c.args.changes.now c.args.ino c.in-Need.need c.in-Need.ensures
