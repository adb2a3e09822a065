use Rattle.std.proofs.Common.{◌≡◌, ◌+◌, ◌≤◌, length, map, take}
use Rattle.mb_tree.specs.Opening.{first_seat}
use Rattle.mb_session.proofs.sessions.begin.Given as goal

abbrev pub invariant-loop-cred : goal.invariant-loop-cred
invariant-loop-cred l = record {
  items : l.seats.items ≡ map first_seat (take l.cred-index l.creds);
  room : length l.creds ≤ l.seats.spare + l.cred-index;
}
