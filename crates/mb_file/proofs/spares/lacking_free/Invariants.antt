use Rattle.std.proofs.Common.{◌≤◌}
use Rattle.mb_file.proofs.FreeLooking.{IsFollowing}
use Rattle.mb_file.proofs.spares.lacking_free.Given as goal

abbrev pub invariant-loop-passed : goal.invariant-loop-passed
invariant-loop-passed g l = (l.at ≤ 6) × IsFollowing (g.V.View.shown l.view) l.changes l.list l.at l.left
