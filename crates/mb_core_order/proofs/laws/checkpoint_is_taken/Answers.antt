use Rattle.mb_core_order.proofs.Rights.{right_seals}
use Rattle.mb_core_order.proofs.laws.checkpoint_is_taken.Goals as goal

pub returns : goal.returns
returns g c = λ core sealed room r may. right_seals g.D.Disk.told g.D.Disk.faults core r sealed room may.entries may.runs may.marks may.reads
