use Rattle.mb_core_order.proofs.Enterings.{tables_by_rule}
use Rattle.mb_core_order.proofs.in_order.tables_by_rule.Goals as goal

pub returns : goal.returns
returns c = tables_by_rule
