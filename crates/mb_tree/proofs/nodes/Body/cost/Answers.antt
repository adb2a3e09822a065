use Rattle.std.proofs.Common.{◌∙◌, sym, ap}
use Rattle.mb_tree.specs.Cost.{body_cost}
use Rattle.mb_tree.proofs.Groups.{no_blocks}
use Rattle.mb_tree.proofs.nodes.Body.cost.Goals as goal

pub returns-in-Special-clause-cost : goal.returns-in-Special-clause-cost
returns-in-Special-clause-cost c = no_blocks ∙ ap body_cost (sym c.in-Special.is)
