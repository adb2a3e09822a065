use Rattle.mb_core_order.proofs.RightsOfCalls.{right_strikes_again}
use Rattle.mb_core_order.proofs.laws.fault_strikes_again.Goals as goal

pub returns : goal.returns
returns g c = λ core caller ordinal kind nth strokes room r may. right_strikes_again g.D.Disk.told g.D.Disk.faults core r caller ordinal kind nth strokes room may
