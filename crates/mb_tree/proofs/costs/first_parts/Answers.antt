use Rattle.std.proofs.Common.{arith}
use Rattle.mb_tree.proofs.Groups.{first_step}
use Rattle.mb_tree.proofs.costs.first_parts.Goals as goal

pub turns-preserved : goal.turns-preserved
turns-preserved c = first_step c.turns.parts.items c.push.new.self.items _ c.turns.left (omega arith) c.in_ok-push.ensures.items c.turns.invariant
