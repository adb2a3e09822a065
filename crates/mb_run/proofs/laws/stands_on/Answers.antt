use Rattle.mb_run.proofs.Lengthening.{stands_on}
use Rattle.mb_run.proofs.laws.stands_on.Goals as goal

pub returns : goal.returns
returns c = stands_on
