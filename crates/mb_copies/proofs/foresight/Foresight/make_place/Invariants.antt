use Rattle.std.proofs.Common.{◌-◌, ◌+◌, length}
use Rattle.mb_copies.proofs.foresight.Foresight.make_place.Given as goal

abbrev pub decreases-kinds : goal.decreases-kinds
decreases-kinds l = l.place + 1 - length l.self-inside.calls.items
