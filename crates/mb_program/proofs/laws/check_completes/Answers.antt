use Rattle.mb_program.proofs.Endings.{check_completes}
use Rattle.mb_program.proofs.laws.check_completes.Goals as goal

pub returns : goal.returns
returns g c = check_completes g.D.Disk.told g.D.Disk.faults
