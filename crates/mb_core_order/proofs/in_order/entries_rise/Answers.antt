use Rattle.mb_core_order.proofs.Numbers.{follows_at}
use Rattle.mb_core_order.proofs.in_order.entries_rise.Goals as goal

pub returns : goal.returns
returns g c = λ core o. follows_at core.journal.history o.numbered.pairs
