-- A step that does not win changes nothing.
use Rattle.std.proofs.Common.{◌≡◌}
use Rattle.mb_turn.proofs.turn.win.Given as goal

abbrev pub invariant-loop : goal.invariant-loop
invariant-loop g l = record {
  can_next : (goal.iterator-loop g).can_next l.iterator';
  is_finite : (goal.iterator-loop g).is_finite l.iterator';
  table : l.seat.table_id ≡ l.initial.seat.table_id;
  me : l.seat.me ≡ l.initial.seat.me;
}
