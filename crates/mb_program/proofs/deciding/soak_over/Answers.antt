use Rattle.mb_program.proofs.Runs.{fault_of_job, no_input}
use Rattle.mb_program.specs.declared.manners.Manner.TheVariants as manners
use Rattle.mb_program.proofs.deciding.soak_over.Goals as goal

pub returns-in-Ok-clause-device : goal.returns-in-Ok-clause-device
returns-in-Ok-clause-device g c =
    fault_of_job g.D.Disk.told g.D.Disk.faults manners.Soak c.in-Ok.job c.args.disk c.run_over.result.held c.run_over.result.outcome c.run_over.ensures.over

pub returns-in-Ok-clause-input : goal.returns-in-Ok-clause-input
returns-in-Ok-clause-input g c =
    no_input g.D.Disk.told g.D.Disk.faults manners.Soak c.in-Ok.job c.args.disk c.run_over.result.held c.run_over.result.outcome c.run_over.ensures.over
