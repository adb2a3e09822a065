use Rattle.mb_tree.proofs.Sweeping.{sweep_is_release}
use Rattle.mb_tree.proofs.history_laws.sweep_is_release.Goals as goal

pub returns : goal.returns
returns c = sweep_is_release
