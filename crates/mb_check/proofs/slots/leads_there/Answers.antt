use Rattle.std.proofs.Common.{sym, ◌∙◌}
use Rattle.mb_check.proofs.Leading.{found_at, leads_some}
use Rattle.mb_check.proofs.slots.leads_there.Goals as goal

pub returns-in-Some : goal.returns-in-Some
returns-in-Some c blocks keeps =
    let h = c.in-Some.ensures.lookup in
    leads_some blocks c.args.table.now c.args.slot.now c.in-Some.kept.now keeps (sym c.is_used.ensures ∙ c.if-not-is_used.false) c.if-slot-eq1.false
    (found_at c.args.table.now.inodes.items c.as_slice.result.now c.from.result c.args.slot.now.ino c.in-Some.kept.now c.as_slice.ensures.value c.from.ensures h.3.0 h.1)
