use Rattle.mb_tree.proofs.LawfulPicks.{refused_with_all}
use Rattle.mb_tree.proofs.pick_laws.refused_with_all.Goals as goal

pub returns : goal.returns
returns c = refused_with_all
