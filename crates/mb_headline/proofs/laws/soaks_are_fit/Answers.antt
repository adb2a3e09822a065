use Rattle.mb_headline.proofs.Generated.{soaks_fit}
use Rattle.mb_headline.proofs.laws.soaks_are_fit.Goals as goal

pub returns : goal.returns
returns c = soaks_fit c.generated_are_fit.ensures
