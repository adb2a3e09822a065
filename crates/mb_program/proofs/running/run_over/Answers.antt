use Rattle.mb_program.proofs.Runs.{of_core}
use Rattle.mb_program.proofs.running.run_over.Goals as goal

pub returns-in-Ok-clause-over : goal.returns-in-Ok-clause-over
returns-in-Ok-clause-over g c =
    of_core g.D.Disk.told g.D.Disk.faults c.args.manner c.args.job.now c.args.disk c.run_begun.result.held c.run_begun.result.outcome c.in-Ok.ensures.volume
    (c.run_begun.ensures.core c.args.disk _ c.in-Ok.ensures.over)

pub returns-in-Err-clause-over : goal.returns-in-Err-clause-over
returns-in-Err-clause-over g c = c.refused.ensures.comes c.args.manner c.args.job.now c.args.disk c.in-Err.ensures.refused
