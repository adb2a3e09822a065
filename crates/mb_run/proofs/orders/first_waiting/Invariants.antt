use Rattle.std.proofs.Common.{◌≡◌}
use Rattle.mb_run.proofs.orders.first_waiting.Given as goal

abbrev pub invariant-loop-runner : goal.invariant-loop-runner
invariant-loop-runner g l = record { at : l.caller ≡ l.runner-index }
