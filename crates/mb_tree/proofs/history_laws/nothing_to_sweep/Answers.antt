use Rattle.mb_tree.proofs.Sweeping.{nothing_to_sweep}
use Rattle.mb_tree.proofs.history_laws.nothing_to_sweep.Goals as goal

pub returns : goal.returns
returns c = nothing_to_sweep
