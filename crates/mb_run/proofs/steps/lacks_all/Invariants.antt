use Rattle.std.proofs.Common.{◌≡◌, ◌≢◌, ◌≤◌, ◌<◌, ◌+◌, ℕ, false, slice_index}
use Rattle.mb_run.specs.Pages.{has}
use Rattle.mb_run.proofs.steps.lacks_all.Given as goal

abbrev pub invariant-loop-block : goal.invariant-loop-block
invariant-loop-block l = (block : ℕ) → l.fn.need.first ≤ block → block < l.block → has l.pages block ≡ false

-- none of the run is there, and of the others none so far
abbrev pub invariant-loop-other : goal.invariant-loop-other
invariant-loop-other l = record {
  items : l.other-items ≡ l.fn.need.others;
  run : (block : ℕ) → l.fn.need.first ≤ block → block < l.fn.need.first + l.fn.need.count → has l.pages block ≡ false;
  others : (at : ℕ) → at < l.other-index → slice_index l.other-items at ≢ 0 → has l.pages (slice_index l.other-items at) ≡ false;
}
