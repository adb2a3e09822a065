-- At how many crossings a plan fires.
use Rattle.std.specs.Prelude.{◌≢◌, ◌≤◌, List, [], ◌∷◌, All, sum_by}
use Rattle.std.specs.List.{count_by}
use Rattle.mb_edge.specs.declared.crossings.Crossing.{Crossing}
use Rattle.mb_plan.specs.Fires.{fires}
use Rattle.mb_plan.specs.declared.rules.Rule.{Rule}

-- no crossing stands twice
abbrev pub StandOnce : List Crossing → Type 0
StandOnce [] = Unit {0}
StandOnce (at ∷ more) = All (λ (other : Crossing). at ≢ other) more × StandOnce more

-- a plan fires at no more crossings than its rules have `times` together
abbrev pub FiresAtMost : Type 0
FiresAtMost = (rules : List Rule) (crossings : List Crossing) → StandOnce crossings
    → count_by (λ (at : Crossing). fires rules at) crossings ≤ sum_by (λ (rule : Rule). rule.times) rules
