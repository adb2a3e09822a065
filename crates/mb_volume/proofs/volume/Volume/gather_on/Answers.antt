use Rattle.std.proofs.Common.{◌≡◌, true, subst, sym}
use Rattle.mb_run.specs.Pages.{PagesGrowBy, IsUnderWay, has}
use Rattle.mb_run.proofs.UnderWay.{gathered_way}
use Rattle.mb_volume.specs.Coming.{ComesOfStep}
use Rattle.mb_volume.proofs.Gathered.{said_there}
use Rattle.mb_volume.proofs.volume.Volume.gather_on.Goals as goal

pub returns-then-is_none-clause-comes : goal.returns-then-is_none-clause-comes
returns-then-is_none-clause-comes g c =
    subst (λ pages. ComesOfStep c.args.self.now.table c.args.call.now (g.H.Hook.test c.args.hook.now) (g.H.Hook.faults c.args.hook.now) (g.H.Hook.faults c.gather-came.new.hook) c.args.pass.now c.gather-came.new.pass (record c.args.attempt.now { pages = pages }) c.gather-came.new.attempt c.gather-came.result.0)
    c.foresee-need.ensures.same c.gather-came.ensures.comes

pub returns-else-is_none-clause-comes : goal.returns-else-is_none-clause-comes
returns-else-is_none-clause-comes g c =
    subst (λ pages. ComesOfStep c.args.self.now.table c.args.call.now (g.H.Hook.test c.args.hook.now) (g.H.Hook.faults c.args.hook.now) (g.H.Hook.faults c.gather-came.new.hook) c.args.pass.now c.gather-came.new.pass (record c.args.attempt.now { pages = pages }) c.gather-came.new.attempt c.gather-came.result.0)
    c.foresee-need.ensures.same c.gather-came.ensures.comes

pub returns-else-is_none-clause-going : goal.returns-else-is_none-clause-going
returns-else-is_none-clause-going g c =
    let same = sym c.foresee-need.ensures.same in
    let there = subst (λ pages. has pages 0 ≡ true) same c.requires.there in
    let going = subst (λ pages. IsUnderWay pages c.args.attempt.now.crossings.caller c.args.call.now c.args.way.now) same c.requires.going in
    let grown = said_there c.gather-came.result.1 (PagesGrowBy c.foresee-need.result c.foresee-need.new.self c.gather-came.new.attempt.pages) c.if-is_none.ensures c.gather-came.ensures.grown in
    subst (λ caller. IsUnderWay c.gather-came.new.attempt.pages caller c.args.call.now c.keep_way.new.way) (sym c.gather-came.ensures.comes.same)
    (gathered_way c.foresee-need.new.self c.gather-came.new.attempt.pages c.args.attempt.now.crossings.caller c.args.call.now c.foresee-need.result c.args.way.now c.keep_way.new.way there going c.keep_way.ensures grown)
