use Rattle.std.proofs.Common.{◌≡◌}
use Rattle.std.specs.Vec.Iter.{into_iter_items}
use Rattle.mb_jobs.specs.Lists.{IsListed, calls_in, next_call}
use Rattle.mb_jobs.specs.Folds.{read_all}
use Rattle.mb_jobs.proofs.lists.calls_of.Given as goal

abbrev pub invariant-texts : goal.invariant-texts
invariant-texts l = record {
  rest : read_all (next_call l.callers) l.listed.calls.items (into_iter_items l.text-iterator) ≡ calls_in l.callers (into_iter_items l.initial.text-iterator);
  listed : IsListed l.listed.calls.items l.listed.moved l.listed.ended;
}
