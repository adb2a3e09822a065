use Rattle.std.proofs.Common.{ap}
use Rattle.mb_run.specs.CoreSight.{sight_of}
use Rattle.mb_volume_core.proofs.Orderly.{orderly}
use Rattle.mb_volume_core.proofs.Sealing.{if_err, if_ok, seal_time, seals}
use Rattle.mb_volume_core.proofs.volume_core.VolumeCoreEventCore.seal.Goals as goal

pub returns-clause-ok : goal.returns-clause-ok
returns-clause-ok g c = if_ok c.seal.result (λ done. seals c.args.self.now.core c.seal.new.self c.requires.runs done.0) c.seal.ensures.ok

pub returns-clause-err : goal.returns-clause-err
returns-clause-err g c = if_err c.seal.result (λ same. ap sight_of same) c.seal.ensures.err

pub returns-clause-right : goal.returns-clause-right
returns-clause-right g c =
    orderly g.D.Disk.told g.D.Disk.faults c.seal.new.self c.seal.ensures.right (seal_time (sight_of c.args.self.now.core) (sight_of c.seal.new.self) c.seal.result (returns-clause-ok g c) (returns-clause-err g c) c.requires.right.seals)
