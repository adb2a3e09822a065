use Rattle.mb_core_order.proofs.Rooms.{right_roomy}
use Rattle.mb_core_spec.specs.Events.{roomy}
use Rattle.mb_core_order.proofs.laws.room_is_free.Goals as goal

pub returns : goal.returns
returns g c = λ event new r. right_roomy g.D.Disk.told g.D.Disk.faults (roomy event new.journal.room) r new.cache.room
