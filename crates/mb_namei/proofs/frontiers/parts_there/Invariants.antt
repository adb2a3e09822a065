use Rattle.std.proofs.Common.{◌-◌, ◌≤◌, ◌<◌}
use Rattle.mb_namei.proofs.frontiers.parts_there.Given as goal

abbrev pub invariant-loop-there : goal.invariant-loop-there
invariant-loop-there g l = (l.there ≤ l.lacking) × (l.lacking < l.parts)

abbrev pub decreases-loop-there : goal.decreases-loop-there
decreases-loop-there g l = l.lacking - l.there
