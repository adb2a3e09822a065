use Rattle.std.proofs.Common.{subst, sym}
use Rattle.mb_dirs.specs.Entering.{EntersName}
use Rattle.mb_dirs.proofs.SlotRewriting.{enters_done, enters_need}
use Rattle.mb_dirs.proofs.enters.enter.Goals as goal

pub returns-in-Done : goal.returns-in-Done
returns-in-Done g c = enters_done (g.V.View.shown c.args.view.now) c.args.changes.now c.rewrite_slot.new.changes c.args.dir c.args.links c.args.moment c.in-At.at c.args.name.now c.args.ino c.args.gap c.in-At.is c.in-Done.ensures

pub returns-in-Need : goal.returns-in-Need
returns-in-Need g c = enters_need (g.V.View.shown c.args.view.now) c.args.changes.now c.rewrite_slot.new.changes c.args.dir c.args.links c.args.moment c.in-At.at c.args.name.now c.args.ino c.args.gap c.in-At.is c.in-Need.need c.in-Need.ensures

pub returns-in-End : goal.returns-in-End
returns-in-End g c = subst (λ p. EntersName (g.V.View.shown c.args.view.now) c.args.changes.now c.grow.new.changes c.args.dir c.args.links c.args.moment p c.args.name.now c.args.ino c.grow.result) (sym c.in-End.is) c.grow.ensures
