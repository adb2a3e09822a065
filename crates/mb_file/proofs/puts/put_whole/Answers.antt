use Rattle.std.proofs.Common.{refl}
use Rattle.mb_file.proofs.PuttingWhole.{whole_refused, whole_by}
use Rattle.mb_file.proofs.puts.put_whole.Goals as goal

pub returns-in-NoneLeft : goal.returns-in-NoneLeft
returns-in-NoneLeft g c = whole_refused (g.V.View.shown c.args.view.now) c.args.changes.now c.put_bytes.new.changes c.args.ino c.args.offset c.args.bytes.now c.args.moment c.put_bytes.new.changes c.in-NoneLeft.ensures

pub returns-in-Done : goal.returns-in-Done
returns-in-Done g c = whole_by (g.V.View.shown c.args.view.now) c.args.changes.now c.grow.new.changes c.args.ino c.args.offset c.args.bytes.now c.args.moment c.put_bytes.new.changes _ refl c.in-Done.ensures c.grow.result c.grow.ensures
