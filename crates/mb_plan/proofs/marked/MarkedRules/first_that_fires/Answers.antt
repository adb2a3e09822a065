use Rattle.std.proofs.Common.{false, get_or, ap, sym, ◌∙◌}
use Rattle.mb_plan.proofs.Marking.{none_fires}
use Rattle.mb_plan.proofs.marked.MarkedRules.first_that_fires.Goals as goal

pub returns-else-self-slot_of : goal.returns-else-self-slot_of
returns-else-self-slot_of c =
    let clear = ap (λ slot. get_or c.self.inside.marks slot false) (sym c.slot_of.ensures.slot) ∙ c.if-self-slot_of.false in
    rw (← c.self.view_is) (none_fires c.self.inside.rules.now c.self.inside.marks c.args.at.now c.self.invariant clear)
