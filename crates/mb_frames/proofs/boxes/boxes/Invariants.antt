use Rattle.std.proofs.Common.{◌-◌, ◌≤◌}
use Rattle.std.specs.Prelude.{vec_len}
use Rattle.mb_frames.proofs.boxes.boxes.Given as goal

abbrev pub invariant-nodes : goal.invariant-nodes
invariant-nodes l = vec_len l.nodes ≤ l.count

abbrev pub decreases-nodes : goal.decreases-nodes
decreases-nodes l = l.count - vec_len l.nodes
