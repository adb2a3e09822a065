use Rattle.std.proofs.Common.{◌≡◌, true, sym, subst}
use Rattle.mb_run.specs.Pages.{IsUnderWay, has}
use Rattle.mb_run.proofs.UnderWay.{gathered_way}
use Rattle.mb_run.proofs.steps.gather_on.Goals as goal

pub returns-clause-going : goal.returns-clause-going
returns-clause-going g c =
    let same = sym c.foresee-need.ensures.same in
    let there = subst (λ pages. has pages 0 ≡ true) same c.requires.there in
    let going = subst (λ pages. IsUnderWay pages c.args.runner.now.crossings.caller c.args.call.now c.args.way.now) same c.requires.going in
    subst (λ caller. IsUnderWay c.gather.new.runner.pages caller c.args.call.now c.keep_way.new.way) (sym c.gather.ensures.did.nears.same)
    (gathered_way c.foresee-need.new.self c.gather.new.runner.pages c.args.runner.now.crossings.caller c.args.call.now c.foresee-need.result c.args.way.now c.keep_way.new.way there going c.keep_way.ensures c.gather.ensures.grown)
