use Rattle.mb_core_order.proofs.Copies.{fresh_part}
use Rattle.mb_core_order.proofs.in_order.fresh_is_part.Goals as goal

pub returns : goal.returns
returns c = fresh_part
