use Rattle.std.proofs.Common.{refl, ◌+◌}
use Rattle.mb_fsops.proofs.Linking.{inode_asks, linked_at, links_full, name_asked, name_there}
use Rattle.mb_fsops.proofs.links.enlink.Goals as goal

pub returns-in-Need : goal.returns-in-Need
returns-in-Need g c = inode_asks (g.V.View.shown c.args.view.now) c.new-none.result c.new-none.ensures c.args.dir c.args.name.now c.args.ino c.args.moment c.in-Need.need c.in-Need.ensures

pub returns-then-inode-ge-MOST_LINKS : goal.returns-then-inode-ge-MOST_LINKS
returns-then-inode-ge-MOST_LINKS g c =
    links_full (g.V.View.shown c.args.view.now) c.new-none.result c.new-none.ensures c.args.dir c.args.name.now c.args.ino c.args.moment c.in-Here.inode c.in-Here.ensures c.if-inode-ge-MOST_LINKS.true

pub returns-in-Open : goal.returns-in-Open
returns-in-Open g c =
    linked_at (g.V.View.shown c.args.view.now) c.new-none.result c.new-none.ensures c.args.dir c.args.name.now c.args.ino c.args.moment c.in-Here.inode c.in-Here.ensures
    (c.in-Here.inode.nlink + 1) c.in-Open.links c.in-Open.gap c.if-inode-ge-MOST_LINKS.false refl c.in-Open.ensures c.link_at.result c.link_at.ensures

pub returns-in-Slot : goal.returns-in-Slot
returns-in-Slot g c = name_there (g.V.View.shown c.args.view.now) c.new-none.result c.new-none.ensures c.args.dir c.args.name.now c.args.ino c.args.moment c.in-Slot.links c.in-Slot.at c.in-Slot.ino c.in-Slot.ensures

pub returns : goal.returns
returns g c = name_asked (g.V.View.shown c.args.view.now) c.new-none.result c.new-none.ensures c.args.dir c.args.name.now c.args.ino c.args.moment c.in-Need-find_name.need c.in-Need-find_name.ensures
