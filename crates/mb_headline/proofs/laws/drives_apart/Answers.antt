use Rattle.mb_headline.proofs.Orders.{driven_apart}
use Rattle.mb_headline.proofs.laws.drives_apart.Goals as goal

pub returns : goal.returns
returns c = driven_apart
