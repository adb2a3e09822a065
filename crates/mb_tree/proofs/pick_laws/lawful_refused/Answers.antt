use Rattle.mb_tree.proofs.LawfulPicks.{lawful_refused}
use Rattle.mb_tree.proofs.pick_laws.lawful_refused.Goals as goal

pub returns : goal.returns
returns c = lawful_refused
