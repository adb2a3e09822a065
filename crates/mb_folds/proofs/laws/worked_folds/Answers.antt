use Rattle.mb_folds.proofs.Examples.{worked_folds}
use Rattle.mb_folds.proofs.laws.worked_folds.Goals as goal

pub returns : goal.returns
returns c = worked_folds
