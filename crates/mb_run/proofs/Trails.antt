-- The trace only grows.
use Rattle.std.proofs.Common.{◌≡◌, List, [], ◌++◌, ap, sym, ◌∙◌, append_assoc}
use Rattle.std.proofs.lemmas.List.{append-nil}
use Rattle.mb_core_spec.specs.declared.steps.Step.{Step}
use Rattle.mb_run.specs.Orders.{Lengthens}
use Rattle.mb_run.specs.Seals.{TrailGoesOn, MarksTrail}
use Rattle.mb_run.specs.Sights.{Sight}

pub trail_same : (trail : List Step) → TrailGoesOn trail trail
trail_same trail = record { steps = []; whole = sym (append-nil trail) }

pub trail_then : (a b d : List Step) → TrailGoesOn a b → TrailGoesOn b d → TrailGoesOn a d
trail_then a b d one two = record { steps = one.steps ++ two.steps; whole = two.whole ∙ ap (λ steps. steps ++ two.steps) one.whole ∙ append_assoc a one.steps two.steps }

pub trail_marks : (before now : List Step) → MarksTrail before now → TrailGoesOn before now
trail_marks before now marks = record { steps = marks.steps; whole = marks.whole }

pub trail_put : (before steps now : List Step) → now ≡ before ++ steps → TrailGoesOn before now
trail_put before steps now put = record { steps = steps; whole = put }

-- history and trace

pub lengthens_same : (s : Sight) → Lengthens s s
lengthens_same s = record { entries = []; history = sym (append-nil s.history); trail = trail_same s.trail }

pub lengthens_then : (a b d : Sight) → Lengthens a b → Lengthens b d → Lengthens a d
lengthens_then a b d one two = record {
  entries = one.entries ++ two.entries;
  history = two.history ∙ ap (λ entries. entries ++ two.entries) one.history ∙ append_assoc a.history one.entries two.entries;
  trail = trail_then a.trail b.trail d.trail one.trail two.trail;
}
