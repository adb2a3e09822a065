use Rattle.mb_tree.proofs.CountsFollow.{counts_follow}
use Rattle.mb_tree.proofs.session_laws.counts_follow.Goals as goal

pub returns : goal.returns
returns c = counts_follow
