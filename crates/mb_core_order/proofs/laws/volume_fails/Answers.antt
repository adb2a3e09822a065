use Rattle.mb_core_order.proofs.RightsOfCalls.{right_fails}
use Rattle.mb_core_order.proofs.laws.volume_fails.Goals as goal

pub returns : goal.returns
returns g c = λ core room r may. right_fails g.D.Disk.told g.D.Disk.faults core r room may.entries may.unwound may.many
