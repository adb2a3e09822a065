use Rattle.std.proofs.Common.{◌≢◌, ◌<◌, ℕ}
use Rattle.mb_word.specs.Fields.{mode_of}
use Rattle.mb_alloc.proofs.numbers.is_full.Given as goal

abbrev pub invariant-loop-place : goal.invariant-loop-place
invariant-loop-place l = (place : ℕ) → place < l.place → mode_of l.inodes place ≢ 0
