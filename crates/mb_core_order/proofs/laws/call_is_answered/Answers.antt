use Rattle.mb_core_order.proofs.RightsOfCalls.{right_answers}
use Rattle.mb_core_order.proofs.laws.call_is_answered.Goals as goal

pub returns : goal.returns
returns g c = λ core at mine flight answer pins room r may. right_answers g.D.Disk.told g.D.Disk.faults core r at mine may.here flight answer pins room may.flies may.idle may.back may.left may.says may.failed may.device
