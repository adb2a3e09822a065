use Rattle.std.proofs.Common.{◌≡◌, ◌-◌, length, drop}
use Rattle.mb_print.specs.Places.{own_calls}
use Rattle.mb_print.proofs.places.find_own.Given as goal

abbrev pub invariant-calls : goal.invariant-calls
invariant-calls l = own_calls l.caller (drop l.at l.calls) ≡ own_calls l.caller (drop l.fn.from l.calls)

abbrev pub decreases-calls : goal.decreases-calls
decreases-calls l = length l.calls - l.at
