use Rattle.mb_core_order.proofs.RightsOfCalls.{right_replays}
use Rattle.mb_core_order.proofs.laws.operation_is_replayed.Goals as goal

pub returns : goal.returns
returns g c = λ core cache opens done logged room r may.
    let a = may.again in
    right_replays g.D.Disk.told g.D.Disk.faults core r cache opens done logged a.pages a.changes a.picked room may.entries may.restored may.next may.rises a.part a.acts a.counted a.view may.same may.later
