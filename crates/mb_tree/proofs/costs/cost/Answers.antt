use Rattle.std.proofs.Common.{sym, arith}
use Rattle.mb_tree.proofs.Searches.{sum_more, sum_none}
use Rattle.mb_tree.proofs.costs.cost.Goals as goal

pub turns-init : goal.turns-init
turns-init c = record { bound = omega arith; few = omega arith; so_far = sym (sum_none _) }

pub turns-preserved : goal.turns-preserved
turns-preserved c = record { bound = omega arith; few = omega (arith, c.in_ok-total.ensures.few); so_far = rw (c.turns.invariant.so_far, c.in_ok-total.ensures.cost) (sym (sum_more _ _)) }
