use Rattle.mb_headline.proofs.Ended.{path_fewer}
use Rattle.mb_headline.proofs.laws.paths_fail.Goals as goal

pub returns : goal.returns
returns g c = λ fs asked job disk begun driven ended path right first rose. path_fewer fs g.D.Disk.told g.D.Disk.faults asked job disk begun driven ended path right first rose
