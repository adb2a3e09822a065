use Rattle.mb_core_order.proofs.Readings.{in_places}
use Rattle.mb_core_order.proofs.in_order.ordinals_are_places.Goals as goal

pub returns : goal.returns
returns g c = in_places
