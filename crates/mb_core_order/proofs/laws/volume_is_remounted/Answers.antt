use Rattle.mb_core_order.proofs.Rights.{right_remounts}
use Rattle.mb_core_order.proofs.laws.volume_is_remounted.Goals as goal

pub returns : goal.returns
returns g c = λ core disk oplog room r may. right_remounts g.D.Disk.told g.D.Disk.faults core r disk oplog room may.entries may.dropped may.folds may.same may.later
