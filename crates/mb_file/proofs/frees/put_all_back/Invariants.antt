use Rattle.std.proofs.Common.{◌-◌, ◌≤◌, length}
use Rattle.mb_file.proofs.PuttingBack.{HasPutBack}
use Rattle.mb_file.proofs.frees.put_all_back.Given as goal

abbrev pub invariant-loop-next : goal.invariant-loop-next
invariant-loop-next g l = (l.next ≤ length l.list) × HasPutBack (g.V.View.shown l.view) l.fn.changes l.changes l.first l.list l.next

abbrev pub decreases-loop-next : goal.decreases-loop-next
decreases-loop-next g l = length l.list - l.next
