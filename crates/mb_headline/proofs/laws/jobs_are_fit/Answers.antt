use Rattle.mb_headline.proofs.Fitting.{jobs_fit}
use Rattle.mb_headline.proofs.laws.jobs_are_fit.Goals as goal

pub returns : goal.returns
returns c = jobs_fit
