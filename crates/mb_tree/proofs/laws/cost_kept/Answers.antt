use Rattle.mb_tree.proofs.Cheaper.{cost_kept}
use Rattle.mb_tree.proofs.laws.cost_kept.Goals as goal

pub returns : goal.returns
returns c = cost_kept
