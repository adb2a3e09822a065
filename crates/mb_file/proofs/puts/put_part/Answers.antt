use Rattle.std.proofs.Common.{inl, inr}
use Rattle.mb_file.proofs.PuttingParts.{puts_none, puts_asked, puts_never, puts_done, puts_lacking}
use Rattle.mb_file.proofs.puts.put_part.Goals as goal

pub returns-in-NoneLeft : goal.returns-in-NoneLeft
returns-in-NoneLeft g c = puts_none (g.V.View.shown c.args.view.now) c.args.changes.now c.reach.new.changes c.args.ino c.args.part c.args.place c.requires.part c.args.bytes.now c.in-NoneLeft.ensures

pub returns-in-Need : goal.returns-in-Need
returns-in-Need g c = puts_asked (g.V.View.shown c.args.view.now) c.args.changes.now c.reach.new.changes c.args.ino c.args.part c.args.place c.requires.part c.args.bytes.now c.reach.new.changes c.in-Need.need c.in-Need.ensures

pub returns-then-block-eq0 : goal.returns-then-block-eq0
returns-then-block-eq0 g c = puts_never (g.V.View.shown c.args.view.now) c.args.changes.now c.reach.new.changes c.args.ino c.args.part c.args.place c.requires.part c.args.bytes.now c.reach.new.changes c.in-At.block c.in-At.ensures (inl c.if-block-eq0.true)

pub returns-then-block-ge262144 : goal.returns-then-block-ge262144
returns-then-block-ge262144 g c = puts_never (g.V.View.shown c.args.view.now) c.args.changes.now c.reach.new.changes c.args.ino c.args.part c.args.place c.requires.part c.args.bytes.now c.reach.new.changes c.in-At.block c.in-At.ensures (inr c.if-block-ge262144.true)

pub returns-in-Done : goal.returns-in-Done
returns-in-Done g c = puts_done (g.V.View.shown c.args.view.now) c.args.changes.now c.edit.new.changes c.args.ino c.args.part c.args.place c.requires.part c.args.bytes.now c.reach.new.changes c.in-At.block c.in-At.ensures c.requires.fits c.in-Done.ensures

pub returns-in-Lacking : goal.returns-in-Lacking
returns-in-Lacking g c = puts_lacking (g.V.View.shown c.args.view.now) c.args.changes.now c.edit.new.changes c.args.ino c.args.part c.args.place c.requires.part c.args.bytes.now c.reach.new.changes c.in-At.block c.in-At.ensures c.one.result
    (c.one.ensures.need (g.V.View.shown c.args.view.now) c.in-Lacking.ensures.1) c.one.ensures.first
