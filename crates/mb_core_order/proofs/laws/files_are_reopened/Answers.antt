use Rattle.mb_core_order.proofs.RightsOfCalls.{right_reopens}
use Rattle.mb_core_order.proofs.laws.files_are_reopened.Goals as goal

pub returns : goal.returns
returns g c = λ core opens room r may. right_reopens g.D.Disk.told g.D.Disk.faults core r opens room may.entries may.remounted may.counted
