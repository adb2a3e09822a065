use Rattle.std.proofs.Common.{sym, arith}
use Rattle.mb_tree.proofs.Searches.{sum_more, sum_none}
use Rattle.mb_tree.proofs.tables.Files.held.Goals as goal

pub turns-init : goal.turns-init
turns-init c = record { bound = omega arith; few = omega arith; so_far = sym (sum_none _) }

pub turns-preserved : goal.turns-preserved
turns-preserved c = record { bound = omega arith; few = omega arith; so_far = rw (c.turns.invariant.so_far, c.held_by-count.ensures.held) (sym (sum_more _ _)) }
