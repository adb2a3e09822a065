use Rattle.std.proofs.Common.{ℕ, ◌≡◌, ◌<◌, get_or}
use Rattle.mb_mkfs.specs.FreeLists.{free_at}
use Rattle.mb_mkfs.proofs.free_lists.first_list.Given as goal

abbrev pub invariant-loop-k : goal.invariant-loop-k
invariant-loop-k l = (k : ℕ) → k < l.k → get_or l.number-items k 0 ≡ free_at l.top l.next k
