use Rattle.std.proofs.Common.{◌<◌, length}
use Rattle.mb_copies.proofs.foresight.Foresight.end.Given as goal

abbrev pub invariant-loop-at : goal.invariant-loop-at
invariant-loop-at l = l.place < length l.self-inside.calls.items
