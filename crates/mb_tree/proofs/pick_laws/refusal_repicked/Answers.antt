use Rattle.mb_tree.proofs.Repicking.{refused_plans}
use Rattle.mb_tree.proofs.pick_laws.refusal_repicked.Goals as goal

pub returns : goal.returns
returns c = λ machine caller made moment number pick e h. refused_plans number machine caller made moment pick e h
