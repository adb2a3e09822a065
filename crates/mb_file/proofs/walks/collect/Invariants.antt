use Rattle.std.proofs.Common.{◌-◌, ◌≤◌, vec_len}
use Rattle.mb_file.proofs.Listing.{HasCollected}
use Rattle.mb_file.proofs.walks.collect.Given as goal

abbrev pub invariant-loop-passed : goal.invariant-loop-passed
invariant-loop-passed g l = (vec_len l.list ≤ 262144) × HasCollected (g.V.View.shown l.view) l.changes l.inode l.list.items (13 - l.passed)
