use Rattle.std.proofs.Common.{◌≡◌, replicate}
use Rattle.mb_core_spec.specs.Begun.{idle}
use Rattle.mb_callers.proofs.callers.Callers.new.Given as goal

abbrev pub invariant-loop : goal.invariant-loop
invariant-loop l = l.states.items ≡ replicate l.counter idle
