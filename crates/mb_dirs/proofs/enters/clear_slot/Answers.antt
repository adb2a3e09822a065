use Rattle.mb_dirs.proofs.SlotRewriting.{cleared}
use Rattle.mb_dirs.proofs.enters.clear_slot.Goals as goal

pub returns : goal.returns
returns g c = cleared (g.V.View.shown c.args.view.now) c.args.changes.now c.rewrite_slot.new.changes c.args.dir c.args.links c.args.moment c.args.at c.args.name.now c.rewrite_slot.result c.rewrite_slot.ensures
