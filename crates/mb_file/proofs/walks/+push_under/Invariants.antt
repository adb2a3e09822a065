use Rattle.std.proofs.Common.{◌-◌, ◌≤◌, vec_len}
use Rattle.mb_file.proofs.Listing.{HasPushed}
use Rattle.mb_file.proofs.walks.+push_under.Given as goal

abbrev pub decreases-push_under : goal.decreases-push_under
decreases-push_under g l = l.levels

abbrev pub invariant-loop-passed : goal.invariant-loop-passed
invariant-loop-passed g l = (vec_len l.list ≤ 262144) × HasPushed (g.V.View.shown l.view) l.changes l.address (l.levels - 1) l.fn.list.items l.list.items (128 - l.passed)
