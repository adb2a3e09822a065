use Rattle.std.proofs.Common.{length}
use Rattle.mb_tree.proofs.lookups.+walk.Given as goal

abbrev pub decreases-walk : goal.decreases-walk
decreases-walk l = length l.names.now
