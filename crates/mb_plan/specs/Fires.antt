-- At which fault points the rules of a plan fire, and the damage that is done there (this project's choice).
use Rattle.std.specs.Prelude.{◌+◌, ◌&&◌, nat_eq, nat_lt, nat_le, Bool, List, [], Option, Some, None, find}
use Rattle.std.specs.List.{list_any}
use Rattle.mb_kinds.specs.declared.faults.Kind.{Kind}
use Rattle.mb_edge.specs.Crossings.{place_of}
use Rattle.mb_edge.specs.declared.crossings.Crossing.{Crossing}
use Rattle.mb_edge.specs.declared.strokes.Stroke.{Stroke}
use Rattle.mb_plan.specs.declared.rules.Rule.{Rule}

-- two kinds are one
abbrev pub same_kind : Kind → Kind → Bool
same_kind first second = nat_eq (place_of first) (place_of second)

-- the crossing is one of the rule's call and kind
abbrev pub is_meant : Rule → Crossing → Bool
is_meant rule at = (nat_eq rule.caller at.caller && nat_eq rule.ordinal at.ordinal) && same_kind rule.kind at.kind

-- a rule fires at the crossings of its call and kind whose number is above `skip` and at most `skip` plus `times`
abbrev pub rule_fires : Rule → Crossing → Bool
rule_fires rule at = is_meant rule at && (nat_lt rule.skip at.nth && nat_le at.nth (rule.skip + rule.times))

-- a plan fires where one of its rules does
abbrev pub fires : List Rule → Crossing → Bool
fires rules at = list_any (λ (rule : Rule). rule_fires rule at) rules

-- the damage of a rule, and none where there is no rule
abbrev pub damage_of : Option Rule → List Stroke
damage_of (Some rule) = rule.damage
damage_of None = []

-- where several rules fire, the first one's damage is done
abbrev pub damage_at : List Rule → Crossing → List Stroke
damage_at rules at = damage_of (find (λ (rule : Rule). rule_fires rule at) rules)
