use Rattle.mb_program.proofs.Runs.{fault_of_words}
use Rattle.mb_program.proofs.Words.{of_job}
use Rattle.mb_program.specs.declared.manners.Manner.TheVariants as manners
use Rattle.mb_program.proofs.deciding.decide_by_threads.Goals as goal

pub run_by_threads-requires-clause-fit : goal.run_by_threads-requires-clause-fit
run_by_threads-requires-clause-fit g c = λ κs outlives. c.jobs_are_fit.ensures c.in-Ok.ensures.job.bytes c.in-Ok.job c.in-Ok.ensures.job.fact

pub returns-in-Ok-clause-comes : goal.returns-in-Ok-clause-comes
returns-in-Ok-clause-comes g c =
    of_job g.D.Disk.told g.D.Disk.faults manners.Threads (g.S.Source.left c.args.job.now) (g.S.Source.left c.read_job.new.source) c.args.disk c.run_by_threads.result.held c.run_by_threads.result.outcome (record {
      bytes = c.in-Ok.ensures.job.bytes;
      first = c.in-Ok.ensures.job.first;
      rest = c.in-Ok.ensures.job.rest;
      few = c.in-Ok.ensures.job.few;
      fact = record { job = c.in-Ok.job; read = c.in-Ok.ensures.job.fact; over = c.run_by_threads.ensures.over };
    })

pub returns-in-Ok-clause-device : goal.returns-in-Ok-clause-device
returns-in-Ok-clause-device g c = fault_of_words g.D.Disk.told g.D.Disk.faults manners.Threads (g.S.Source.left c.args.job.now) (g.S.Source.left c.read_job.new.source) c.args.disk c.run_by_threads.result.held c.run_by_threads.result.outcome (returns-in-Ok-clause-comes g c)
