use Rattle.mb_iface.proofs.Editing.{by_both}
use Rattle.mb_iface.proofs.edits.edit_both.Goals as goal

pub returns-in-Done : goal.returns-in-Done
returns-in-Done g c = by_both (g.V.View.shown c.args.view.now) c.args.changes.now c.edit.new.changes c.patch.new.self c.args.block c.args.at c.args.beside c.args.bytes.now c.args.more.now c.in-Done.ensures c.patch.ensures.each
