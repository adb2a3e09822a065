use Rattle.std.proofs.Common.{ℕ, ◌≡◌, ◌≤◌, ◌<◌, ◌+◌, None}
use Rattle.mb_iface.proofs.replies.Need.run.Given as goal

abbrev pub invariant-loop-count : goal.invariant-loop-count
invariant-loop-count g l = (block : ℕ) → l.fn.first ≤ block → block < l.fn.first + l.count → g.V.View.shown l.fn.view block ≡ None
