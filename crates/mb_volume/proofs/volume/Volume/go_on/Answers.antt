use Rattle.std.proofs.Common.{◌≡◌, ◌∙◌, subst}
use Rattle.mb_volume.specs.Coming.{ComesOfStep}
use Rattle.mb_volume.specs.declared.attempt.Attempt.{Attempt}
use Rattle.mb_volume.proofs.volume.Volume.go_on.Goals.{then-has_tables+in_default+in_default-code, else-has_tables}
use Rattle.mb_volume.proofs.volume.Volume.go_on.Goals as goal

pub returns-in-Some-clause-comes : goal.returns-in-Some-clause-comes
returns-in-Some-clause-comes g c =
    subst (λ (attempt : Attempt). ComesOfStep c.args.self.now.table c.args.call.now (g.H.Hook.test c.args.hook.now) (g.H.Hook.faults c.args.hook.now) (g.H.Hook.faults c.gather.new.hook) c.args.pass.now c.gather.new.pass attempt c.gather.new.attempt c.gather.result.0)
    c.foreseen.ensures.same c.gather.ensures.comes

pub returns-in-Need-clause-comes : goal.returns-in-Need-clause-comes
returns-in-Need-clause-comes g c =
    subst (λ (attempt : Attempt). ComesOfStep c.args.self.now.table c.args.call.now (g.H.Hook.test c.args.hook.now) (g.H.Hook.faults c.args.hook.now) (g.H.Hook.faults c.gather_on.new.hook) c.args.pass.now c.gather_on.new.pass attempt c.gather_on.new.attempt c.gather_on.result)
    c.foreseen.ensures.same c.gather_on.ensures.comes

pub returns-in-Ready-clause-comes : goal.returns-in-Ready-clause-comes
returns-in-Ready-clause-comes g c =
    subst (λ (attempt : Attempt). ComesOfStep c.args.self.now.table c.args.call.now (g.H.Hook.test c.args.hook.now) (g.H.Hook.faults c.args.hook.now) (g.H.Hook.faults c.finish.new.hook) c.args.pass.now c.finish.new.pass attempt c.finish.new.attempt c.finish.result)
    c.foreseen.ensures.same c.finish.ensures.comes

pub returns-clause-comes : goal.returns-clause-comes
returns-clause-comes g c =
    let same : c.if-has_tables.attempt ≡ c.args.attempt.now = elim c.if-has_tables.branch [
      | then-has_tables+in_default+in_default-code w ↦ w.attempt-is ∙ w.foreseen.ensures.same
      | else-has_tables w ↦ w.attempt-is
    ] in
    subst (λ (attempt : Attempt). ComesOfStep c.args.self.now.table c.args.call.now (g.H.Hook.test c.args.hook.now) (g.H.Hook.faults c.args.hook.now) (g.H.Hook.faults c.gather-came.new.hook) c.args.pass.now c.gather-came.new.pass attempt c.gather-came.new.attempt c.gather-came.result.0)
    same c.gather-came.ensures.comes
