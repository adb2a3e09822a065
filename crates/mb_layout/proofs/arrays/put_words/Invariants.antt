use Rattle.std.proofs.Common.{◌≡◌, take}
use Rattle.mb_word.specs.Numbers.{put_at}
use Rattle.mb_layout.specs.Listed.{words_bytes}
use Rattle.mb_layout.proofs.arrays.put_words.Given as goal

abbrev pub invariant-loop-k : goal.invariant-loop-k
invariant-loop-k l = l.b ≡ put_at l.fn.b l.at (words_bytes (take l.k l.list))
