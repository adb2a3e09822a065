use Rattle.std.proofs.Common.{◌≡◌, ◌+◌, ◌≤◌, length, take}
use Rattle.mb_session.proofs.sessions.fill.Given as goal

abbrev pub invariant-loop-seat : goal.invariant-loop-seat
invariant-loop-seat l = record {
  items : l.seats.items ≡ take l.seat-index l.from;
  room : length l.from ≤ l.seats.spare + l.seat-index;
}
