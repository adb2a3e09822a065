use Rattle.std.proofs.Common.{ℕ, ◌≡◌, ◌-◌, sym, ◌∙◌}
use Rattle.mb_fsops.proofs.Releasing.{one_erased, one_gone, one_reads, one_stays}
use Rattle.mb_fsops.proofs.releases.release_one.Goals as goal

left_is : (left files times opened counted : ℕ) → left ≡ files - times → files ≡ opened → times ≡ counted → left ≡ opened - counted
left_is left files times opened counted is one two = cc

pub returns-in-Need : goal.returns-in-Need
returns-in-Need g c = one_reads (g.V.View.shown c.args.view.now) c.args.changes.now c.args.opens.now c.args.inos.now c.args.ino c.args.changes.now c.in-Need.need c.in-Need.ensures

pub returns-then-inode-eq0 : goal.returns-then-inode-eq0
returns-then-inode-eq0 g c = one_gone (g.V.View.shown c.args.view.now) c.args.changes.now c.args.opens.now c.args.inos.now c.args.ino c.in-Here.inode c.in-Here.ensures c.if-inode-eq0.true

pub returns-then-is_lost : goal.returns-then-is_lost
returns-then-is_lost g c =
    one_erased (g.V.View.shown c.args.view.now) c.args.changes.now c.args.opens.now c.args.inos.now c.args.ino c.in-Here.inode c.in-Here.ensures
    c.saturating_sub-left.result (left_is c.saturating_sub-left.result c.count.result c.times.result _ _ c.saturating_sub-left.ensures c.count.ensures.count c.times.ensures)
    c.erase_in.new.changes c.if-inode-eq0.false (sym c.is_lost.ensures ∙ c.if-is_lost.true) c.erase_in.result c.erase_in.ensures

pub returns : goal.returns
returns g c =
    one_stays (g.V.View.shown c.args.view.now) c.args.changes.now c.args.opens.now c.args.inos.now c.args.ino c.in-Here.inode c.in-Here.ensures
    c.saturating_sub-left.result (left_is c.saturating_sub-left.result c.count.result c.times.result _ _ c.saturating_sub-left.ensures c.count.ensures.count c.times.ensures)
    (sym c.is_lost.ensures ∙ c.if-is_lost.false)
