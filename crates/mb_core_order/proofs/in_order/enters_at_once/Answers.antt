use Rattle.mb_core_order.proofs.Enterings.{entering_begins}
use Rattle.mb_core_order.proofs.in_order.enters_at_once.Goals as goal

pub returns : goal.returns
returns g c = entering_begins
