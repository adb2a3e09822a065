use Rattle.std.proofs.Common.{◌-◌, ◌≤◌}
use Rattle.mb_dirs.proofs.pick_needs.likely_end.Given as goal

abbrev pub invariant-loop-end : goal.invariant-loop-end
invariant-loop-end g l = (2 ≤ l.end) × (l.end ≤ 65535)

abbrev pub decreases-loop-end : goal.decreases-loop-end
decreases-loop-end g l = l.size - l.end
