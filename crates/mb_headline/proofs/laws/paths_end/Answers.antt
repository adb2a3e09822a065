use Rattle.mb_headline.proofs.Ended.{path_ends, path_image}
use Rattle.mb_headline.proofs.laws.paths_end.Goals as goal

pub returns : goal.returns
returns g c = λ fs asked job disk begun driven ended path settled.
    (path_ends fs g.D.Disk.told g.D.Disk.faults asked job disk begun driven ended path settled, path_image fs g.D.Disk.told g.D.Disk.faults asked job disk begun driven ended path settled)
