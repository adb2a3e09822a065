use Rattle.std.proofs.Common.{ℕ, ◌≡◌, ◌+◌, ◌*◌, ◌<◌, get_or}
use Rattle.mb_word.specs.Numbers.{long_at}
use Rattle.mb_layout.proofs.arrays.longs_at.Given as goal

abbrev pub invariant-loop-k : goal.invariant-loop-k
invariant-loop-k l = (k : ℕ) → k < l.k → get_or l.x-items k 0 ≡ long_at l.b (l.at + 4 * k)
