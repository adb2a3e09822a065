use Rattle.mb_cache.proofs.Looks.{under_both}
use Rattle.mb_cache.proofs.laws.seen_in_layers.Goals as goal

pub returns : goal.returns
returns c = under_both
