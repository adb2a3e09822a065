use Rattle.std.proofs.Common.{List, [], ◌∷◌, ℕ, sym, ◌∙◌, arith, length-append}
use Rattle.mb_plan.specs.declared.rules.Rule.{Rule}
use Rattle.mb_jobs.specs.Rules.{rule_in}
use Rattle.mb_jobs.proofs.RuleWords.{read_all-more}
use Rattle.mb_jobs.proofs.rules.rules_over.Goals as goal

pub texts-preserved : goal.texts-preserved
texts-preserved c =
    let found = sym c.in_ok-rule.ensures ∙ c.in-Some.is in
    let step = read_all-more (λ text. text.now) (λ (before : List Rule) (text : List ℕ). rule_in c.args.struck.calls.now text) c.texts.rules.items c.args.texts.now c.texts.text-index _ c.in-Some.rule _ c.texts-test.true found c.texts.invariant.rest in
    let few = c.texts.invariant.few in
    record { rest = rw c.in_ok-push-in-Some.ensures.items step; few = rw c.in_ok-push-in-Some.ensures.items (omega (arith, few, length-append c.texts.rules.items (c.in-Some.rule ∷ []))) }
