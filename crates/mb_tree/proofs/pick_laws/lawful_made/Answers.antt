use Rattle.mb_tree.proofs.LawfulPicks.{lawful_made}
use Rattle.mb_tree.proofs.pick_laws.lawful_made.Goals as goal

pub returns : goal.returns
returns c = lawful_made
