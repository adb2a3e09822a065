-- The seat has the sights of the passes so far, and the others are of this table and without the turn.
use Rattle.std.proofs.Common.{◌≡◌, [], ◌++◌, map, false}
use Rattle.std.specs.Vec.Iter.{into_iter_items}
use Rattle.mb_turn.specs.Passes.{EachIn}
use Rattle.mb_turn.specs.Rule.{idle, sight_of_pass}
use Rattle.mb_turn.proofs.turn.gather.Given as goal

abbrev pub invariant-loop-pass : goal.invariant-loop-pass
invariant-loop-pass g l = record {
  can_next : (goal.iterator-loop-pass g).can_next l.pass-iterator;
  is_finite : (goal.iterator-loop-pass g).is_finite l.pass-iterator;
  table : l.seat.table_id ≡ l.shared.table_id;
  seat : l.seat.me ≡ (idle l.seat.me.0.sights, []);
  sights : l.seat.me.0.sights ++ map sight_of_pass (into_iter_items l.pass-iterator) ≡ map sight_of_pass l.fn.passes.items;
  tables : EachIn (λ pass. pass.table ≡ l.shared.table_id) (into_iter_items l.pass-iterator);
  free : EachIn (λ pass. pass.holds ≡ false) (into_iter_items l.pass-iterator);
}
