use Rattle.mb_bmap.proofs.Hanging.{by_index}
use Rattle.mb_bmap.proofs.hangs.set_bytes.Goals as goal

pub returns-in-Done : goal.returns-in-Done
returns-in-Done g c = by_index (g.V.View.shown c.args.view.now) c.args.changes.now c.put_and_edit.new.changes c.args.holder c.args.at c.args.block c.args.bytes.now c.args.is_index c.if-is_index.true c.in-Done.ensures
