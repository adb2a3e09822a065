use Rattle.mb_tree.proofs.SlotsAndLinks.{slots_and_links_kept}
use Rattle.mb_tree.proofs.laws.slots_and_links_kept.Goals as goal

pub returns : goal.returns
returns c = slots_and_links_kept
