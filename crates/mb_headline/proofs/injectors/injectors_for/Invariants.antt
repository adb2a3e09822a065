use Rattle.std.proofs.Common.{◌≡◌, [], None}
use Rattle.std.specs.Prelude.{replicate}
use Rattle.mb_headline.proofs.injectors.injectors_for.Given as goal

abbrev pub invariant-loop-caller : goal.invariant-loop-caller
invariant-loop-caller l = record {
  injectors : l.injectors.items ≡ replicate l._caller-index (record { rules = l.job.plan; struck = None; strokes = []; faults = 0 });
}
