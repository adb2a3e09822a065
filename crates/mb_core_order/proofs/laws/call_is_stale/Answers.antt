use Rattle.mb_core_order.proofs.RightsOfCalls.{right_stale}
use Rattle.mb_core_order.proofs.Conditions.{inside_ticket}
use Rattle.mb_core_order.proofs.laws.call_is_stale.Goals as goal

pub returns : goal.returns
returns g c = λ core at mine flight ticket block pins room r may.
    let w = may.within in let t = inside_ticket g.D.Disk.told g.D.Disk.faults core r at mine flight ticket w in
    right_stale g.D.Disk.told g.D.Disk.faults core r at mine w.here flight w.flies ticket w.held w.inside t.ordinal t.caller_is pins may.back room may.unanswered may.runs may.floor (may.marks, may.records) block may.entries
