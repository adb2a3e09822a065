use Rattle.mb_headline.proofs.Begun.{begins_for}
use Rattle.mb_headline.proofs.laws.begins_for_job.Goals as goal

pub returns : goal.returns
returns g c = λ fs disk job config core over right is may. begins_for g.D.Disk.told g.D.Disk.faults fs disk job config core over right is may
