-- Each call of `each` has one owner less than the call that it is made from.
use Rattle.std.proofs.Common.{vec_len, ◌+◌, ◌*◌}
use Rattle.mb_turn.proofs.errand.+each+fn-each-join+arg3.Given as goal

abbrev pub decreases-each : goal.decreases-each
decreases-each g l = 2 * vec_len l.owns

abbrev pub decreases-join+arg3 : goal.decreases-join+arg3
decreases-join+arg3 g l = 2 * vec_len l.owns + 1
