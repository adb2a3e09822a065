use Rattle.mb_walks.proofs.Worked.{worked_kept}
use Rattle.mb_walks.proofs.laws.worked_kept.Goals as goal

pub returns : goal.returns
returns c = worked_kept
