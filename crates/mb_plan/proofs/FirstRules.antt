-- A plan fires exactly where a first rule that fires is found.
use Rattle.std.proofs.Common.{List, [], ◌∷◌, ◌≡◌, ◌||◌, Bool, true, false, cond, Option, Some, refl, ap, ◌∙◌}
use Rattle.std.specs.List.{find, list_any}
use Rattle.std.specs.Option.{is_some}
use Rattle.mb_edge.specs.declared.crossings.Crossing.{Crossing}
use Rattle.mb_plan.specs.declared.rules.Rule.{Rule}
use Rattle.mb_plan.specs.Fires.{fires, rule_fires}

one_more : (first any : Bool) (rule : Rule) (found : Option Rule) → is_some found ≡ any → is_some (cond first (Some rule) found) ≡ (first || any)
one_more true any rule found so_far = refl
one_more false any rule found so_far = so_far

is_some-find : (test : Rule → Bool) (rules : List Rule) → is_some (find test rules) ≡ list_any test rules
is_some-find test [] = refl
is_some-find test (rule ∷ more) = one_more (test rule) (list_any test more) rule (find test more) (is_some-find test more)

pub fires_found : (rules same : List Rule) (at : Crossing) (found : Option Rule) → same ≡ rules → found ≡ find (λ (rule : Rule). rule_fires rule at) same → is_some found ≡ fires rules at
fires_found rules same at found e here = ap is_some here ∙ is_some-find (λ (rule : Rule). rule_fires rule at) same ∙ ap (λ (list : List Rule). fires list at) e
