use Rattle.mb_program.proofs.Endings.{survivors_complete}
use Rattle.mb_program.proofs.laws.survivors_complete.Goals as goal

pub returns : goal.returns
returns g c = survivors_complete g.D.Disk.told g.D.Disk.faults c.fires_at_most.ensures
