use Rattle.mb_tree.proofs.Served.{refused}
use Rattle.mb_tree.proofs.laws.refused_stays.Goals as goal

pub returns : goal.returns
returns c = refused
