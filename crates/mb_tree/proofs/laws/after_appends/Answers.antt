use Rattle.mb_tree.proofs.Histories.{after_both}
use Rattle.mb_tree.proofs.laws.after_appends.Goals as goal

pub returns : goal.returns
returns c = after_both
