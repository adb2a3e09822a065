use Rattle.mb_jobs.proofs.reading.job_of_fields.Goals as goal

pub returns-in-Ok : goal.returns-in-Ok
returns-in-Ok c =
    let found = rw (c.in-Ok.is, c.replace-texts.ensures.value, c.deref.ensures.value) at c.in_ok-calls.ensures.exact in
    rw (← c.fields.view_is, ← found) c.planned.ensures
