use Rattle.mb_recover.proofs.steps.callers_declared.Goals as goal

pub returns : goal.returns
returns g c = c.history.ensures.right.orderly.numbered.callers_are
