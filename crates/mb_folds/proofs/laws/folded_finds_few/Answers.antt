use Rattle.mb_folds.proofs.Folding.{folded_finds_few}
use Rattle.mb_folds.proofs.laws.folded_finds_few.Goals as goal

pub returns : goal.returns
returns c = folded_finds_few
