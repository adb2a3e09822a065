use Rattle.mb_core_order.proofs.Orderlies.{brief}
use Rattle.mb_core_order.proofs.in_order.log_is_short.Goals as goal

pub returns : goal.returns
returns g c = brief
