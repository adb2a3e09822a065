use Rattle.std.proofs.Common.{◌-◌, ◌≤◌}
use Rattle.mb_file.proofs.Reading.{HasCopied}
use Rattle.mb_file.proofs.reads.copy.Given as goal

abbrev pub invariant-loop-done : goal.invariant-loop-done
invariant-loop-done g l = (l.done ≤ l.count) × HasCopied (g.V.View.shown l.view) l.changes l.ino l.offset l.done l.bytes.items

abbrev pub decreases-loop-done : goal.decreases-loop-done
decreases-loop-done g l = l.count - l.done
