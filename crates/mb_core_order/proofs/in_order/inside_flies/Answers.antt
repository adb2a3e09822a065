use Rattle.mb_core_order.proofs.Readings.{flying_inside}
use Rattle.mb_core_order.proofs.Keepings.{some_inside}
use Rattle.mb_core_order.proofs.in_order.inside_flies.Goals as goal

pub returns-clause-flies : goal.returns-clause-flies
returns-clause-flies c = flying_inside

pub returns-clause-some : goal.returns-clause-some
returns-clause-some c = some_inside
