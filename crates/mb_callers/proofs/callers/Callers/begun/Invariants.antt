use Rattle.std.proofs.Common.{◌≡◌, ◌≤◌, ◌+◌, ◌*◌, drop, length}
use Rattle.mb_core_spec.specs.Callers.{begun}
use Rattle.mb_callers.proofs.callers.Callers.begun.Given as goal

abbrev pub invariant-loop-at : goal.invariant-loop-at
invariant-loop-at l = record {
  sum : l.sum + begun (drop l.at l.self) ≡ begun l.self;
  small : l.sum ≤ l.at * 4294967295;
  whole : l.at-end ≡ length l.self;
  few : length l.self ≤ 8;
}
