use Rattle.std.proofs.Common.{◌≡◌, take}
use Rattle.mb_word.specs.Numbers.{put_at}
use Rattle.mb_layout.specs.Listed.{longs_bytes}
use Rattle.mb_layout.proofs.arrays.put_longs.Given as goal

abbrev pub invariant-loop-k : goal.invariant-loop-k
invariant-loop-k l = l.b ≡ put_at l.fn.b l.at (longs_bytes (take l.k l.list))
