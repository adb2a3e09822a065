use Rattle.mb_core_order.proofs.RightsOfCalls.{right_leaves}
use Rattle.mb_core_order.proofs.Conditions.{inside_ticket}
use Rattle.mb_core_order.proofs.laws.call_leaves.Goals as goal

pub returns : goal.returns
returns g c = λ core at mine flight ticket pins room r may.
    let w = may.within in let t = inside_ticket g.D.Disk.told g.D.Disk.faults core r at mine flight ticket w in
    right_leaves g.D.Disk.told g.D.Disk.faults core r at mine w.here flight w.flies ticket w.held w.inside t.ordinal t.caller_is pins may.back room may.left may.runs may.answered
