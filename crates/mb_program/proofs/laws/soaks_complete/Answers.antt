use Rattle.mb_program.proofs.Endings.{soaks_complete}
use Rattle.mb_program.proofs.laws.soaks_complete.Goals as goal

pub returns : goal.returns
returns g c = soaks_complete g.D.Disk.told g.D.Disk.faults c.fires_at_most.ensures c.generated_are_fit.ensures
