use Rattle.std.proofs.Common.{◌∙◌, sym, arith, ap, is_some}
use Rattle.mb_tree.proofs.Searches.{passed, hit, none_left}
use Rattle.mb_tree.proofs.tables.Fds.has_place.Goals as goal

pub returns-then-is_at : goal.returns-then-is_at
returns-then-is_at c = ap is_some (sym (hit _ c.turns.fd 20 (omega arith) (sym c.is_at.ensures ∙ c.if-is_at.true)) ∙ c.turns.invariant.so_far)

pub turns-preserved : goal.turns-preserved
turns-preserved c = record { bound = omega arith; so_far = sym (passed _ c.turns.fd 20 (omega arith) (sym c.is_at.ensures ∙ c.if-is_at.false)) ∙ c.turns.invariant.so_far }

pub returns : goal.returns
returns c = ap is_some (sym (none_left _ c.turns.fd 20 (omega arith)) ∙ c.turns.invariant.so_far)
