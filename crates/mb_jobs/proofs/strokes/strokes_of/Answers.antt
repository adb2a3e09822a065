use Rattle.std.proofs.Common.{drop}
use Rattle.std.proofs.lemmas.List.{take_rest}
use Rattle.mb_jobs.proofs.StrokeLists.{strokes_more}
use Rattle.mb_jobs.proofs.strokes.strokes_of.Goals as goal

pub strokes-preserved : goal.strokes-preserved
strokes-preserved c =
    rw (c.in_ok-push.ensures.items, take_rest c.strokes.rest.now c.in-Some.size)
    (strokes_more (λ word. word.now) c.strokes.strokes.items c.in-Some.stroke c.strokes.rest.now (drop c.in-Some.size c.strokes.rest.now) _ c.in-Some.ensures.some c.strokes.invariant)
