use Rattle.mb_tree.proofs.LawfulPicks.{lawful_unmade}
use Rattle.mb_tree.proofs.pick_laws.lawful_unmade.Goals as goal

pub returns : goal.returns
returns c = lawful_unmade
