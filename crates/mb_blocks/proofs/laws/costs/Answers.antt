use Rattle.mb_blocks.proofs.HeldLists.{cost_enumerated}
use Rattle.mb_blocks.proofs.Missing.{cost_of_more}
use Rattle.mb_blocks.proofs.laws.costs.Goals as goal

pub returns : goal.returns
returns c = record { enumerated = cost_enumerated; missing = cost_of_more }
