use Rattle.std.proofs.Common.{rules, tests, ℕ, not}
use Rattle.std.proofs.lemmas.Iterator.{YieldsList-from_slice}
use Rattle.std.proofs.lemmas.Iterator.Search.{position_from_yields_List}
use Rattle.mb_jobs.specs.Orders.{is_order_byte}
use Rattle.mb_jobs.proofs.orders.bad_at.Goals as goal

pub returns-clause-exact : goal.returns-clause-exact
returns-clause-exact c = position_from_yields_List (λ (byte : ℕ). not (is_order_byte c.args.callers.now byte)) _ _ _ c.position.ensures.ran (YieldsList-from_slice c.args.text.now cc) (λ x b q k. search (rules, tests))
