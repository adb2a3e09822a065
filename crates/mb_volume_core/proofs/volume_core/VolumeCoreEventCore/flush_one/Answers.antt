use Rattle.std.proofs.Common.{ap}
use Rattle.mb_run.proofs.InTime.{flushes_time}
use Rattle.mb_volume_core.proofs.Orderly.{orderly}
use Rattle.mb_volume_core.proofs.Origins.{origin_of}
use Rattle.mb_volume_core.proofs.Sealing.{flush_later, flush_rose, flushes}
use Rattle.mb_volume_core.proofs.Standing.{flush_stands}
use Rattle.mb_volume_core.proofs.volume_core.VolumeCoreEventCore.flush_one.Goals as goal

pub returns-clause-flushes : goal.returns-clause-flushes
returns-clause-flushes g c = flushes c.args.self.now.core c.flush_one.new.self g.D.Disk.told g.D.Disk.faults c.flush_one.result c.flush_one.ensures.flushes c.flush_one.ensures.rest

pub returns-clause-device : goal.returns-clause-device
returns-clause-device g c = flush_rose c.args.self.now.core c.flush_one.new.self g.D.Disk.told g.D.Disk.faults c.flush_one.result c.flush_one.ensures.flushes

pub returns-clause-later : goal.returns-clause-later
returns-clause-later g c = flush_later c.args.self.now.core c.flush_one.new.self g.D.Disk.told g.D.Disk.faults c.flush_one.result c.flush_one.ensures.flushes

pub returns-clause-stands : goal.returns-clause-stands
returns-clause-stands g c = flush_stands c.args.self.now.core c.flush_one.new.self c.flush_one.ensures.rest

pub returns-clause-origin : goal.returns-clause-origin
returns-clause-origin g c = ap origin_of c.flush_one.ensures.rest

pub returns-clause-right : goal.returns-clause-right
returns-clause-right g c = orderly g.D.Disk.told g.D.Disk.faults c.flush_one.new.self c.flush_one.ensures.right (flushes_time _ _ _ (returns-clause-flushes g c) c.requires.right.seals)
