use Rattle.std.proofs.Common.{◌≡◌, map, take}
use Rattle.mb_tree.specs.Opening.{first_seat}
use Rattle.mb_check_tree.proofs.machines.first_seats.Given as goal

abbrev pub invariant-loop-cred : goal.invariant-loop-cred
invariant-loop-cred l = l.seats ≡ map first_seat (take l.cred-index l.callers)
