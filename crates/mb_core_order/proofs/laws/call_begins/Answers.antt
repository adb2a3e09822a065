use Rattle.mb_core_order.proofs.RightsOfCalls.{right_waits}
use Rattle.mb_core_order.proofs.laws.call_begins.Goals as goal

pub returns : goal.returns
returns g c = λ core at mine call room r may. right_waits g.D.Disk.told g.D.Disk.faults core r at mine may.here call may.call_is may.free may.few room may.left may.space
