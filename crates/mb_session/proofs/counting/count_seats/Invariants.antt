use Rattle.std.proofs.Common.{ℕ, ◌≡◌, ◌≤◌, ◌*◌, take, sum_by}
use Rattle.mb_iface.specs.OpenCounts.{count_of}
use Rattle.mb_tree.specs.Sessions.{held_in}
use Rattle.mb_tree.specs.declared.seats.Seat.{Seat}
use Rattle.mb_session.proofs.counting.count_seats.Given as goal

abbrev pub invariant-loop-seat : goal.invariant-loop-seat
invariant-loop-seat l = record {
  few : (ino : ℕ) → count_of l.opens ino ≤ 17 * l.seat-index;
  so_far : (ino : ℕ) → count_of l.opens ino ≡ sum_by (λ (seat : Seat). held_in seat ino) (take l.seat-index l.seats);
}
