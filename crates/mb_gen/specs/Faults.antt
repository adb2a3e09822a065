-- The rules of a generated job's faults, by what is drawn for them (this project's choice).
use Rattle.std.specs.Prelude.{List, [], ◌∷◌, ◌++◌, ℕ, zero, suc, ◌+◌, ◌==◌, if◌then◌else◌}
use Rattle.mb_kinds.specs.declared.faults.Kind.{Kind}
use Rattle.mb_kinds.specs.declared.faults.Kind.TheVariants.{Enter, Gather, Finish, Leave}
use Rattle.mb_edge.specs.declared.strokes.Stroke.TheVariants.{Wipe}
use Rattle.mb_plan.specs.declared.rules.Rule.{Rule}
use Rattle.mb_jobs.specs.declared.jobs.JobCall.{JobCall}
use Rattle.mb_jobs.specs.Rules.{caller_at, ordinal_at}
use Rattle.mb_gen.specs.Draws.{of_three}

-- a kind of fault point, of a number from 0 to 3
abbrev pub kind_numbered : ℕ → Kind
kind_numbered number = if number == 0 then Enter else if number == 1 then Gather else if number == 2 then Finish else Leave

-- the rule `CALL KIND 0 1 wipe BYTE`, where CALL is one more than what was drawn
abbrev pub rule_at : List JobCall → ℕ → ℕ → ℕ → Rule
rule_at calls place kind byte = record {
  caller = caller_at calls (1 + place);
  ordinal = ordinal_at calls (1 + place);
  kind = kind_numbered kind;
  skip = 0;
  times = 1;
  damage = Wipe byte ∷ [];
}

-- one rule: first the call is drawn, of so many, then the kind and the byte
abbrev pub rule_drawn : {G : Type 0} → (G → ℕ × G) → List JobCall → ℕ → G → Rule × G
rule_drawn step calls bound draws = of_three step bound 4 256 (rule_at calls) draws

-- so many rules, one after another
unfoldable pub rules_drawn : {G : Type 0} → (G → ℕ × G) → List JobCall → ℕ → ℕ → G → List Rule × G
rules_drawn step calls bound zero draws = ([], draws)
rules_drawn step calls bound (suc count) draws =
    let before = rules_drawn step calls bound count draws in
    let last = rule_drawn step calls bound before.1 in
    (before.0 ++ last.0 ∷ [], last.1)
