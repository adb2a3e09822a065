use Rattle.std.proofs.Common.{◌≡◌, length}
use Rattle.mb_cache_walks.proofs.ring_tests.moves_agree_with_plain_lists.Given as goal

abbrev pub invariant-loop-ring : goal.invariant-loop-ring
invariant-loop-ring g l = length l.rings.rings ≡ 3

abbrev pub invariant-loop-number : goal.invariant-loop-number
invariant-loop-number g l = length l.rings.rings ≡ 3
