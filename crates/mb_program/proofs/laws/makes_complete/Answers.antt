use Rattle.mb_program.proofs.Endings.{makes_complete}
use Rattle.mb_program.proofs.laws.makes_complete.Goals as goal

pub returns : goal.returns
returns g c = makes_complete g.D.Disk.told g.D.Disk.faults
