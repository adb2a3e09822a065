use Rattle.std.proofs.Common.{◌∙◌, sym, arith}
use Rattle.mb_tree.proofs.Searches.{passed, hit, none_left}
use Rattle.mb_tree.proofs.tables.Fds.first_free.Goals as goal

pub returns-then-is_free-clause-free : goal.returns-then-is_free-clause-free
returns-then-is_free-clause-free c = sym (hit _ c.turns.fd 20 (omega arith) (sym c.is_free.ensures ∙ c.if-is_free.true)) ∙ c.turns.invariant.so_far

pub turns-preserved : goal.turns-preserved
turns-preserved c = record { bound = omega arith; so_far = sym (passed _ c.turns.fd 20 (omega arith) (sym c.is_free.ensures ∙ c.if-is_free.false)) ∙ c.turns.invariant.so_far }

pub returns-clause-free : goal.returns-clause-free
returns-clause-free c = sym (none_left _ c.turns.fd 20 (omega arith)) ∙ c.turns.invariant.so_far
