use Rattle.std.proofs.Common.{◌≡◌, false, arith, subst, sym}
use Rattle.mb_run.specs.Pages.{has}
use Rattle.mb_run.specs.declared.runner.Runner.{Runner}
use Rattle.mb_run.proofs.Finishing.{need_lacks}
use Rattle.mb_run.proofs.steps.go_on.Goals as goal

pub gather-requires-in-Some-clause-lacks : goal.gather-requires-in-Some-clause-lacks
gather-requires-in-Some-clause-lacks g c = subst (λ (runner : Runner). has runner.pages c.in-Some.need.first ≡ false) (sym c.foreseen.ensures.same) (need_lacks _ _ c.in-Some.ensures.need)

pub gather-requires-in-Some-clause-first : goal.gather-requires-in-Some-clause-first
gather-requires-in-Some-clause-first g c = omega (arith, c.in-Some.ensures.need.below)

pub gather-requires-in-Some-clause-some : goal.gather-requires-in-Some-clause-some
gather-requires-in-Some-clause-some g c = c.in-Some.ensures.need.some

pub gather-requires-in-Some-clause-count : goal.gather-requires-in-Some-clause-count
gather-requires-in-Some-clause-count g c = c.in-Some.ensures.need.few

pub returns-in-Some-clause-did : goal.returns-in-Some-clause-did
returns-in-Some-clause-did g c = rw c.foreseen.ensures.same at c.gather-in-Some.ensures.did

pub returns-clause-did : goal.returns-clause-did
returns-clause-did g c = rw c.foreseen.ensures.same at c.go_over.ensures.did
