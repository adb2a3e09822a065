use Rattle.mb_core_order.proofs.RightsOfCalls.{right_drops_both}
use Rattle.mb_core_order.proofs.laws.pages_are_dropped.Goals as goal

pub returns : goal.returns
returns g c = λ core room r may. right_drops_both g.D.Disk.told g.D.Disk.faults core r room may
