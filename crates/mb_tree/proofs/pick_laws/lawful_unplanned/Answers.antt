use Rattle.mb_tree.proofs.LawfulPicks.{lawful_unplanned}
use Rattle.mb_tree.proofs.pick_laws.lawful_unplanned.Goals as goal

pub returns : goal.returns
returns c = lawful_unplanned
