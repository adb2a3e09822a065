use Rattle.mb_core_order.proofs.Readings.{floor_fresh}
use Rattle.mb_core_order.proofs.in_order.floor_is_not_stale.Goals as goal

pub returns : goal.returns
returns c = floor_fresh
