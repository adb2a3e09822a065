use Rattle.mb_core_order.proofs.Rights.{right_strikes}
use Rattle.mb_core_order.proofs.laws.fault_strikes.Goals as goal

pub returns : goal.returns
returns g c = λ core ticket kind nth strokes room r may. right_strikes g.D.Disk.told g.D.Disk.faults core r ticket kind nth strokes room may.declared may.entries may.runs may.some may.marks
