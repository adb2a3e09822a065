use Rattle.std.proofs.Common.{◌≡◌, ◌≢◌, ◌<◌, ℕ, Some, slice_get}
use Rattle.mb_jobs.specs.declared.jobs.Caller.{Caller}
use Rattle.mb_run.proofs.orders.find_letter.Given as goal

abbrev pub invariant-loop-caller : goal.invariant-loop-caller
invariant-loop-caller l = record {
  at : l.place ≡ l.caller-index;
  lacks : (place : ℕ) (caller : Caller) → place < l.caller-index → slice_get l.callers place ≡ Some caller → caller.letter ≢ l.letter;
}
