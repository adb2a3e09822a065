use Rattle.mb_program.proofs.Endings.{runs_complete}
use Rattle.mb_program.proofs.laws.runs_complete.Goals as goal

pub returns : goal.returns
returns g c = runs_complete g.D.Disk.told g.D.Disk.faults
