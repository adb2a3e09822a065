use Rattle.mb_run.proofs.Lengthening.{recovers_soon}
use Rattle.mb_run.proofs.laws.recovers_soon.Goals as goal

pub returns : goal.returns
returns c = recovers_soon
