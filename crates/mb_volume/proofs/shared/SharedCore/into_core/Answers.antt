use Rattle.mb_volume_core.proofs.Orderly.{orderly}
use Rattle.mb_volume.proofs.shared.SharedCore.into_core.Goals as goal

pub returns-clause-right : goal.returns-clause-right
returns-clause-right g c = orderly g.D.Disk.told g.D.Disk.faults c.into_inner-core.result.core.core c.in_order.ensures (rw c.into_inner-core.ensures c.self.invariant.1)
