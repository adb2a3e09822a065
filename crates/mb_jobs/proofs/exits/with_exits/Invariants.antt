use Rattle.std.proofs.Common.{◌≡◌, ◌++◌, ◌+◌, length}
use Rattle.std.specs.Vec.Iter.{into_iter_items, into_iter_len}
use Rattle.mb_jobs.proofs.exits.with_exits.Given as goal

abbrev pub invariant-exits : goal.invariant-exits
invariant-exits l = record {
  moved : l.all.items ++ into_iter_items l.exit-iterator ≡ l.initial.all.items ++ into_iter_items l.initial.exit-iterator;
  count : length l.all.items + length (into_iter_items l.exit-iterator) ≡ length l.initial.all.items + length (into_iter_items l.initial.exit-iterator);
  counted : into_iter_len l.exit-iterator ≡ length (into_iter_items l.exit-iterator);
}
