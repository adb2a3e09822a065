use Rattle.std.proofs.Common.{◌≡◌, drop, length, map}
use Rattle.mb_jobs.specs.Rules.{rules_in, rule_in}
use Rattle.mb_jobs.specs.Folds.{read_all}
use Rattle.mb_jobs.proofs.rules.rules_over.Given as goal

abbrev pub invariant-texts : goal.invariant-texts
invariant-texts l = record {
  rest : read_all (λ before text. rule_in l.struck.calls.now text) l.rules.items (map (λ text. text.now) (drop l.text-index l.texts)) ≡ rules_in l.struck.calls.now (map (λ text. text.now) l.texts);
  few : length l.rules.items ≡ l.text-index;
}
