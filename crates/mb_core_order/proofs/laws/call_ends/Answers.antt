use Rattle.mb_core_order.proofs.RightsOfCalls.{right_ends}
use Rattle.mb_core_order.proofs.laws.call_ends.Goals as goal

pub returns : goal.returns
returns g c = λ core at mine pins r may. right_ends g.D.Disk.told g.D.Disk.faults core r at mine may.here pins may.back
