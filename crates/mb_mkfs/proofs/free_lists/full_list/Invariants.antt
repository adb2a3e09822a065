use Rattle.std.proofs.Common.{ℕ, ◌≡◌, ◌<◌, get_or}
use Rattle.mb_mkfs.specs.FreeLists.{number_at}
use Rattle.mb_mkfs.proofs.free_lists.full_list.Given as goal

abbrev pub invariant-loop-k : goal.invariant-loop-k
invariant-loop-k l = (k : ℕ) → k < l.k → get_or l.number-items k 0 ≡ number_at l.top l.next 49 k
