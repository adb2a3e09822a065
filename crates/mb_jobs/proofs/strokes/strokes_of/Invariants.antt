use Rattle.std.proofs.Common.{◌≡◌, List, ◌++◌, length, map, option_map}
use Rattle.mb_edge.specs.declared.strokes.Stroke.{Stroke}
use Rattle.mb_jobs.specs.Rules.{strokes_in}
use Rattle.mb_jobs.proofs.strokes.strokes_of.Given as goal

abbrev pub invariant-strokes : goal.invariant-strokes
invariant-strokes l =
    option_map (λ (more : List Stroke). l.strokes.items ++ more) (strokes_in (map (λ word. word.now) l.rest)) ≡ strokes_in (map (λ word. word.now) l.words)

abbrev pub decreases-strokes : goal.decreases-strokes
decreases-strokes l = length l.rest
