use Rattle.std.proofs.Common.{◌≡◌, ◌≤◌, ◌+◌, drop, length}
use Rattle.mb_core_spec.specs.Callers.{insiders}
use Rattle.mb_callers.proofs.callers.Callers.insiders.Given as goal

abbrev pub invariant-loop-at : goal.invariant-loop-at
invariant-loop-at l = record {
  sum : l.count + insiders (drop l.at l.self) ≡ insiders l.self;
  small : l.count ≤ l.at;
  whole : l.at-end ≡ length l.self;
}
