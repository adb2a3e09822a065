use Rattle.std.proofs.Common.{ap}
use Rattle.mb_run.specs.Sights.{limits_of}
use Rattle.mb_volume_core.proofs.volume_core.VolumeCoreEventCore.config.Goals as goal

pub returns : goal.returns
returns g c = ap limits_of c.config.ensures
