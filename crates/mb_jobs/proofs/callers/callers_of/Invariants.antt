use Rattle.std.proofs.Common.{◌≡◌, [], drop, length, map}
use Rattle.mb_jobs.specs.Callers.{next_caller}
use Rattle.mb_jobs.specs.Folds.{read_all}
use Rattle.mb_jobs.proofs.callers.callers_of.Given as goal

abbrev pub invariant-texts : goal.invariant-texts
invariant-texts l = record {
  rest : read_all next_caller l.callers.items (map (λ text. text.now) (drop l.text-index l.texts)) ≡ read_all next_caller [] (map (λ text. text.now) l.texts);
  few : length l.callers.items ≡ l.text-index;
}
