use Rattle.std.proofs.Common.{ap, ◌∙◌, sym, option_map}
use Rattle.mb_plan.specs.Hooked.{Hooked}
use Rattle.mb_plan.proofs.FirstRules.{fires_found}
use Rattle.mb_plan.proofs.hooks.PlanHookHook.cross.Goals as goal

pub returns-in-Some-clause-answer : goal.returns-in-Some-clause-answer
returns-in-Some-clause-answer c =
    fires_found c.args.self.now.rules _ c.args.at.now _ (ap (λ (hook : Hooked). hook.rules) c.self.view_is) (ap (option_map (λ rule. rule.now)) (sym c.in-Some.is) ∙ c.first_that_fires.ensures)

pub returns-in-None-clause-answer : goal.returns-in-None-clause-answer
returns-in-None-clause-answer c =
    fires_found c.args.self.now.rules _ c.args.at.now _ (ap (λ (hook : Hooked). hook.rules) c.self.view_is) (ap (option_map (λ rule. rule.now)) (sym c.in-None.is) ∙ c.first_that_fires.ensures)
