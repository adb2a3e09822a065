use Rattle.mb_core_order.proofs.Rights.{right_resumes}
use Rattle.mb_core_order.proofs.laws.volume_resumes.Goals as goal

pub returns : goal.returns
returns g c = λ core room r may. right_resumes g.D.Disk.told g.D.Disk.faults core r room may.entries may.restored
