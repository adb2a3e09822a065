use Rattle.std.proofs.Common.{sym, ◌∙◌}
use Rattle.mb_fsops.proofs.Unlinking.{lose_asks, lose_erased, lose_less, lose_reads}
use Rattle.mb_fsops.proofs.links.lose_name.Goals as goal

pub returns-in-Need : goal.returns-in-Need
returns-in-Need g c = lose_reads (g.V.View.shown c.args.view.now) c.args.changes.now c.args.changes.now c.args.opens.now c.args.ino c.args.moment c.in-Need.need c.in-Need.ensures

pub returns-then-is_lost : goal.returns-then-is_lost
returns-then-is_lost g c =
    lose_erased (g.V.View.shown c.args.view.now) c.args.changes.now c.erase_in.new.changes c.args.opens.now c.args.ino c.args.moment c.in-Here.inode c.in-Here.ensures
    c.saturating_sub-links.result c.count.result c.saturating_sub-links.ensures c.count.ensures.count c.erase_in.result (sym c.is_lost.ensures ∙ c.if-is_lost.true) c.erase_in.ensures

pub returns-in-Done : goal.returns-in-Done
returns-in-Done g c =
    lose_less (g.V.View.shown c.args.view.now) c.args.changes.now c.set_fields.new.changes c.args.opens.now c.args.ino c.args.moment c.in-Here.inode c.in-Here.ensures
    c.saturating_sub-links.result c.count.result c.saturating_sub-links.ensures c.count.ensures.count (sym c.is_lost.ensures ∙ c.if-is_lost.false) c.in-Done.ensures

pub returns-in-Need-set_fields : goal.returns-in-Need-set_fields
returns-in-Need-set_fields g c =
    lose_asks (g.V.View.shown c.args.view.now) c.args.changes.now c.set_fields.new.changes c.args.opens.now c.args.ino c.args.moment c.in-Here.inode c.in-Here.ensures
    c.saturating_sub-links.result c.count.result c.saturating_sub-links.ensures c.count.ensures.count c.in-Need-set_fields.need c.in-Need-set_fields.ensures
