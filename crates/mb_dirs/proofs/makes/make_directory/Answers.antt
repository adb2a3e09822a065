use Rattle.std.proofs.Common.{inl, inr}
use Rattle.mb_dirs.proofs.MakingSteps.{no_room, way_asked, out_of_range, block_asked, all_done}
use Rattle.mb_dirs.proofs.makes.make_directory.Goals.{then-block-eq0-via-then-block-eq0, then-block-eq0-via-else-block-eq0+then-block-ge262144}
use Rattle.mb_dirs.proofs.makes.make_directory.Goals as goal

pub returns-in-NoneLeft : goal.returns-in-NoneLeft
returns-in-NoneLeft g c = no_room (g.V.View.shown c.args.view.now) c.args.changes.now c.write_blank.new.changes c.args.ino c.args.new.now c.args.parent c.inode_of.result c.inode_of.ensures c.in-Done.ensures c.reach.new.changes c.in-NoneLeft.ensures

pub returns-in-Need-reach : goal.returns-in-Need-reach
returns-in-Need-reach g c = way_asked (g.V.View.shown c.args.view.now) c.args.changes.now c.write_blank.new.changes c.args.ino c.args.new.now c.args.parent c.inode_of.result c.inode_of.ensures c.in-Done.ensures c.reach.new.changes c.in-Need-reach.need c.in-Need-reach.ensures

pub returns-then-block-eq0 : goal.returns-then-block-eq0
returns-then-block-eq0 g c = out_of_range (g.V.View.shown c.args.view.now) c.args.changes.now c.write_blank.new.changes c.args.ino c.args.new.now c.args.parent c.inode_of.result c.inode_of.ensures c.in-Done.ensures c.reach.new.changes c.in-At.block c.in-At.ensures c.reach.new.changes
    (elim c.then-block-eq0.branch [
      | then-block-eq0-via-then-block-eq0 w ↦ inl w.if-block-eq0.true
      | then-block-eq0-via-else-block-eq0+then-block-ge262144 w ↦ inr w.if-block-ge262144.true
    ])

pub returns-in-Lacking : goal.returns-in-Lacking
returns-in-Lacking g c = block_asked (g.V.View.shown c.args.view.now) c.args.changes.now c.write_blank.new.changes c.args.ino c.args.new.now c.args.parent c.inode_of.result c.inode_of.ensures c.in-Done.ensures c.reach.new.changes c.in-At.block c.in-At.ensures c.put_slot.new.changes c.one.result (c.one.ensures.need (g.V.View.shown c.args.view.now) c.in-Lacking.ensures) c.one.ensures.first

pub returns-in-Lacking-put_slot : goal.returns-in-Lacking-put_slot
returns-in-Lacking-put_slot g c = block_asked (g.V.View.shown c.args.view.now) c.args.changes.now c.write_blank.new.changes c.args.ino c.args.new.now c.args.parent c.inode_of.result c.inode_of.ensures c.in-Done.ensures c.reach.new.changes c.in-At.block c.in-At.ensures c.put_slot-2.new.changes c.one-in-Lacking-put_slot.result (c.one-in-Lacking-put_slot.ensures.need (g.V.View.shown c.args.view.now) c.in-Lacking-put_slot.ensures) c.one-in-Lacking-put_slot.ensures.first

pub returns-in-Done-put_slot-2 : goal.returns-in-Done-put_slot-2
returns-in-Done-put_slot-2 g c = all_done (g.V.View.shown c.args.view.now) c.args.changes.now c.write_blank.new.changes c.args.ino c.args.new.now c.args.parent c.inode_of.result c.inode_of.ensures c.in-Done.ensures c.reach.new.changes c.in-At.block c.in-At.ensures c.put_slot.new.changes c.put_slot-2.new.changes c.in-Done-put_slot.ensures c.in-Done-put_slot-2.ensures
