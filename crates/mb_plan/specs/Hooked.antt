-- What a contract sees of a plan at work.
use Rattle.std.specs.Prelude.{ℕ, List, Option}
use Rattle.mb_edge.specs.declared.crossings.Crossing.{Crossing}
use Rattle.mb_edge.specs.declared.strokes.Stroke.{Stroke}
use Rattle.mb_plan.specs.declared.rules.Rule.{Rule}

-- the rules, the crossing that was struck last with its damage, and how many faults there were
pub record Hooked : Type 0 where
  pub rules : List Rule
  pub struck : Option Crossing
  pub strokes : List Stroke
  pub faults : ℕ
