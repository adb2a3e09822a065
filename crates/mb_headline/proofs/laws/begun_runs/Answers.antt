use Rattle.mb_headline.proofs.Begun.{runs_begun}
use Rattle.mb_headline.proofs.laws.begun_runs.Goals as goal

pub returns : goal.returns
returns g c = λ fs job disk core begun. runs_begun g.D.Disk.told g.D.Disk.faults fs job disk core begun
