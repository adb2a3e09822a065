use Rattle.std.proofs.Common.{◌≡◌, ◌≤◌, ◌*◌, take, sum_by}
use Rattle.mb_tree.specs.Sessions.{held_in}
use Rattle.mb_tree.specs.declared.seats.Seat.{Seat}
use Rattle.mb_tree.proofs.seats.count.Given as goal

abbrev pub invariant-loop-seat : goal.invariant-loop-seat
invariant-loop-seat l = record {
  few : l.count ≤ 255 * l.seat-index;
  so_far : l.count ≡ sum_by (λ (seat : Seat). held_in seat l.ino) (take l.seat-index l.seats);
}
