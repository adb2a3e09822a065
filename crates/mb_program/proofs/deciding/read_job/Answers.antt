use Rattle.mb_program.proofs.JobLemmas.{is_refused}
use Rattle.mb_program.proofs.deciding.read_job.Goals as goal

pub returns-clause-refused : goal.returns-clause-refused
returns-clause-refused g c =
    is_refused (g.S.Source.left c.args.source.now) (g.S.Source.left c.read_whole.new.source) c.in-Ok.bytes c.as_slice.result.now c.refusal.result c.in-Ok.ensures.first c.in-Ok.ensures.rest c.in-Ok.ensures.bound c.as_slice.ensures (c.refusal.ensures _ c.in-Err.ensures)
