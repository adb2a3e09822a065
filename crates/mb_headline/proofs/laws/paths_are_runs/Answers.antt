use Rattle.mb_headline.proofs.Running.{path_run}
use Rattle.mb_headline.proofs.laws.paths_are_runs.Goals as goal

pub returns : goal.returns
returns g c = λ fs asked job disk begun driven ended fit path. path_run fs g.D.Disk.told g.D.Disk.faults asked job disk begun driven ended path fit.early
