use Rattle.mb_core_order.proofs.RightsOfCalls.{right_gathers}
use Rattle.mb_core_order.proofs.laws.call_gathers.Goals as goal

pub returns : goal.returns
returns g c = λ core at mine disk pages steps pins room r may. right_gathers g.D.Disk.told g.D.Disk.faults core r at mine may.here disk pages steps pins room may.inside may.gathers may.pinned may.reads may.same may.later
