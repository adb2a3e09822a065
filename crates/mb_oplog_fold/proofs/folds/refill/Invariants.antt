use Rattle.std.proofs.Common.{◌≡◌, ◌+◌, ◌++◌, ◌≤◌, length}
use Rattle.std.specs.Vec.Iter.{into_iter_items}
use Rattle.mb_oplog_fold.proofs.folds.refill.Given as goal

abbrev pub invariant-loop-logged : goal.invariant-loop-logged
invariant-loop-logged l = record {
  can_next : goal.iterator-loop-logged.can_next l.logged-iterator;
  is_finite : goal.iterator-loop-logged.is_finite l.logged-iterator;
  items : l.log.items ++ into_iter_items l.logged-iterator ≡ l.fn.ops.items;
  room : l.fn.log.spare + length l.fn.log.items ≤ l.log.spare + length l.log.items;
  left : length (into_iter_items l.logged-iterator) ≤ l.log.spare;
}
