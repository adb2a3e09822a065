-- The passes so far are the first workers', and the others are still to come.
use Rattle.std.proofs.Common.{◌≡◌, ◌+◌, ◌++◌, false, length, map, vec_len, vec_capacity}
use Rattle.std.specs.List.{AllByRecursion}
use Rattle.std.specs.Vec.Iter.{into_iter_items}
use Rattle.mb_threads.proofs.driving.dismiss.Given as goal

abbrev pub invariant-loop-worker : goal.invariant-loop-worker
invariant-loop-worker g l = record {
  can_next : (goal.iterator-loop-worker g).can_next l.worker-iterator;
  is_finite : (goal.iterator-loop-worker g).is_finite l.worker-iterator;
  passes : l.passes.items ++ map (λ worker. worker.pass) (into_iter_items l.worker-iterator) ≡ map (λ worker. worker.pass) l.fn.workers.items;
  stopped : l.stopped ≡ false → AllByRecursion (λ worker. worker.stopped ≡ false) (into_iter_items l.worker-iterator) → AllByRecursion (λ worker. worker.stopped ≡ false) l.fn.workers.items;
  room : vec_len l.passes + length (into_iter_items l.worker-iterator) ≡ vec_capacity l.passes;
}
