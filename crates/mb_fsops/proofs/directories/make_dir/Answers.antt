use Rattle.std.proofs.Common.{◌+◌, refl, arith}
use Rattle.mb_fsops.proofs.MakingDirs.{block_asked, dir_made_at, links_full, name_asked, name_there, number_asked}
use Rattle.mb_fsops.proofs.directories.make_dir.Goals as goal

pub returns-in-Slot-clause-performs : goal.returns-in-Slot-clause-performs
returns-in-Slot-clause-performs g c = name_there c.args.dir c.args.name.now c.args.new.now (g.V.View.shown c.args.view.now) c.args.demanded c.in-Slot.links c.in-Slot.at c.in-Slot.ino c.in-Slot.ensures

pub returns-in-Need-clause-performs : goal.returns-in-Need-clause-performs
returns-in-Need-clause-performs g c = name_asked c.args.dir c.args.name.now c.args.new.now (g.V.View.shown c.args.view.now) c.args.demanded c.in-Need.need c.in-Need.ensures

pub returns-then-links-ge-MOST_LINKS-clause-performs : goal.returns-then-links-ge-MOST_LINKS-clause-performs
returns-then-links-ge-MOST_LINKS-clause-performs g c = links_full c.args.dir c.args.name.now c.args.new.now (g.V.View.shown c.args.view.now) c.args.demanded c.in-Open.links c.in-Open.gap (omega (arith, c.if-links-ge-MOST_LINKS.true)) c.in-Open.ensures

pub returns-else-links-ge-MOST_LINKS-clause-performs : goal.returns-else-links-ge-MOST_LINKS-clause-performs
returns-else-links-ge-MOST_LINKS-clause-performs g c =
    dir_made_at c.args.dir c.args.name.now c.args.new.now (g.V.View.shown c.args.view.now) c.args.demanded c.in-Open.links (c.in-Open.links + 1) c.in-Open.gap (omega (arith, c.if-links-ge-MOST_LINKS.false)) refl
    c.in-Open.ensures c.make_dir_at.result c.make_dir_at.ensures

pub returns-in-Some-clause-performs : goal.returns-in-Some-clause-performs
returns-in-Some-clause-performs g c = number_asked c.args.dir c.args.name.now c.args.new.now (g.V.View.shown c.args.view.now) c.args.demanded c.new.result c.new.ensures c.in-Some.need c.in-Some.ensures

pub returns-in-Some-lacking_free-clause-performs : goal.returns-in-Some-lacking_free-clause-performs
returns-in-Some-lacking_free-clause-performs g c =
    block_asked c.args.dir c.args.name.now c.args.new.now (g.V.View.shown c.args.view.now) c.args.demanded c.new-2.result c.new-2.ensures c.in-Some-lacking_free.need c.in-Some-lacking_free.ensures
