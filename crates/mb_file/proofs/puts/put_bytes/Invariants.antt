use Rattle.std.proofs.Common.{◌-◌, ◌≤◌, length}
use Rattle.mb_file.proofs.PuttingBytes.{HasPutBytes}
use Rattle.mb_file.proofs.puts.put_bytes.Given as goal

abbrev pub invariant-loop-done : goal.invariant-loop-done
invariant-loop-done g l = (l.done ≤ length l.bytes) × HasPutBytes (g.V.View.shown l.view) l.fn.changes l.changes l.ino l.offset l.bytes l.done

abbrev pub decreases-loop-done : goal.decreases-loop-done
decreases-loop-done g l = length l.bytes - l.done
