use Rattle.std.proofs.Common.{◌≤◌, ◌<◌, ℕ, List, ◌≡◌}
use Rattle.mb_word.specs.Fields.{index_entry}
use Rattle.mb_check_files.proofs.addresses.holds_address.Given as goal

abbrev pub invariant-loop-place : goal.invariant-loop-place
invariant-loop-place l = (k : ℕ) → k < l.place → index_entry l.block k ≡ 0
