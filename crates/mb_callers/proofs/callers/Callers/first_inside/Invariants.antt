use Rattle.std.proofs.Common.{◌≡◌, ◌≤◌, ◌<◌, ℕ, Some, false, length, slice_get}
use Rattle.mb_core_spec.specs.State.{CallerState}
use Rattle.mb_callers.proofs.callers.Callers.first_inside.Given as goal

abbrev pub invariant-loop-at : goal.invariant-loop-at
invariant-loop-at l = record {
  none : (caller : ℕ) (mine : CallerState) → caller < l.at → slice_get l.self caller ≡ Some mine → mine.inside ≡ false;
  whole : l.at-end ≡ length l.self;
  few : length l.self ≤ 8;
}
