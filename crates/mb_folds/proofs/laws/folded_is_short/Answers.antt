use Rattle.mb_folds.proofs.Folding.{folded_is_short}
use Rattle.mb_folds.proofs.laws.folded_is_short.Goals as goal

pub returns : goal.returns
returns c = folded_is_short
