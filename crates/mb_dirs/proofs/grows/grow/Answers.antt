use Rattle.std.proofs.Common.{inl, inr, subst}
use Rattle.mb_layout.specs.declared.dinodes.Dinode.{Dinode}
use Rattle.mb_dirs.specs.Rewriting.{RewritesInode}
use Rattle.mb_dirs.specs.declared.steps.Advanced.TheVariants as advanced
use Rattle.mb_dirs.proofs.GrowthSteps.{too_long, no_room, way_asked, out_of_range, block_asked, all_done}
use Rattle.mb_dirs.proofs.grows.grow.Goals.{then-block-eq0-via-then-block-eq0, then-block-eq0-via-else-block-eq0+then-block-ge262144}
use Rattle.mb_dirs.proofs.grows.grow.Goals as goal

pub returns-then-part-ge2113674 : goal.returns-then-part-ge2113674
returns-then-part-ge2113674 g c = too_long (g.V.View.shown c.args.view.now) c.args.changes.now c.args.dir c.args.links c.args.moment c.args.name.now c.args.ino c.in-Here.inode c.in-Here.ensures c.args.changes.now c.if-part-ge2113674.true

pub returns-in-NoneLeft : goal.returns-in-NoneLeft
returns-in-NoneLeft g c = no_room (g.V.View.shown c.args.view.now) c.args.changes.now c.args.dir c.args.links c.args.moment c.args.name.now c.args.ino c.in-Here.inode c.in-Here.ensures c.reach.new.changes c.in-NoneLeft.ensures

pub returns-in-Need-reach : goal.returns-in-Need-reach
returns-in-Need-reach g c = way_asked (g.V.View.shown c.args.view.now) c.args.changes.now c.args.dir c.args.links c.args.moment c.args.name.now c.args.ino c.in-Here.inode c.in-Here.ensures c.reach.new.changes c.in-Need-reach.need c.in-Need-reach.ensures

pub returns-then-block-eq0 : goal.returns-then-block-eq0
returns-then-block-eq0 g c = out_of_range (g.V.View.shown c.args.view.now) c.args.changes.now c.args.dir c.args.links c.args.moment c.args.name.now c.args.ino c.in-Here.inode c.in-Here.ensures c.reach.new.changes c.in-At.block c.in-At.ensures c.reach.new.changes
    (elim c.then-block-eq0.branch [
      | then-block-eq0-via-then-block-eq0 w ↦ inl w.if-block-eq0.true
      | then-block-eq0-via-else-block-eq0+then-block-ge262144 w ↦ inr w.if-block-ge262144.true
    ])

pub returns-in-Lacking : goal.returns-in-Lacking
returns-in-Lacking g c = block_asked (g.V.View.shown c.args.view.now) c.args.changes.now c.args.dir c.args.links c.args.moment c.args.name.now c.args.ino c.in-Here.inode c.in-Here.ensures c.reach.new.changes c.in-At.block c.in-At.ensures c.put_slot.new.changes c.one.result (c.one.ensures.need (g.V.View.shown c.args.view.now) c.in-Lacking.ensures) c.one.ensures.first

pub returns-in-Done-rewrite : goal.returns-in-Done-rewrite
returns-in-Done-rewrite g c = all_done (g.V.View.shown c.args.view.now) c.args.changes.now c.args.dir c.args.links c.args.moment c.args.name.now c.args.ino c.in-Here.inode c.in-Here.ensures c.reach.new.changes c.in-At.block c.in-At.ensures c.put_slot.new.changes c.rewrite.new.changes c.in-Done.ensures
    (subst (λ (d : Dinode). RewritesInode (g.V.View.shown c.args.view.now) c.put_slot.new.changes c.rewrite.new.changes c.args.dir d advanced.Done) c.longer.ensures c.in-Done-rewrite.ensures)
