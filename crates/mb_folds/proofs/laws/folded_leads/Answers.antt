use Rattle.mb_folds.proofs.Folding.{folded_leads}
use Rattle.mb_folds.proofs.laws.folded_leads.Goals as goal

pub returns : goal.returns
returns c = folded_leads
