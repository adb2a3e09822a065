-- The workers so far have the first passes and hooks, and the others are still to come.
use Rattle.std.proofs.Common.{◌≡◌, ◌+◌, ◌++◌, length, map, vec_len, vec_capacity}
use Rattle.std.specs.List.{AllByRecursion}
use Rattle.std.specs.Vec.Iter.{into_iter_items}
use Rattle.mb_threads.proofs.driving.employ.Given as goal

abbrev pub invariant-loop-pass : goal.invariant-loop-pass
invariant-loop-pass g l = record {
  can_next : (goal.iterator-loop-pass g).can_next l.pass-iterator;
  is_finite : (goal.iterator-loop-pass g).is_finite l.pass-iterator;
  passes : map (λ worker. worker.pass) l.workers.items ++ into_iter_items l.pass-iterator ≡ l.fn.passes.items;
  hooks : map (λ worker. g.H.Hook.test worker.hook) l.workers.items ++ map g.H.Hook.test (into_iter_items l.hooks) ≡ map g.H.Hook.test l.fn.hooks.items;
  calls : AllByRecursion (λ worker. worker.calls.now ≡ l.fn.calls) l.workers.items;
  same : length (into_iter_items l.hooks) ≡ length (into_iter_items l.pass-iterator);
  room : vec_len l.workers + length (into_iter_items l.pass-iterator) ≡ vec_capacity l.workers;
}
