use Rattle.std.proofs.Common.{sym, ◌∙◌}
use Rattle.mb_jobs.proofs.StrokeLists.{strokes_in-one, strokes_in-two}
use Rattle.mb_jobs.proofs.strokes.first_stroke.Goals as goal

pub returns-in_default-clause-none : goal.returns-in_default-clause-none
returns-in_default-clause-none c = λ some. strokes_in-one (λ word. word.now) c.args.words.now c.in_default.len_below some

pub returns-in_default-2-clause-none : goal.returns-in_default-2-clause-none
returns-in_default-2-clause-none c = λ some. strokes_in-two (λ word. word.now) c.args.words.now _ c.in_default.len_below c.in-len2-up.len_at_least (rw c.as_slice.ensures at (sym c.eq.ensures ∙ c.if-eq.false))
