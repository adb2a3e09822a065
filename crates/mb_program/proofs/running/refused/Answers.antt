use Rattle.mb_program.proofs.Refusals.{comes_of_refusal}
use Rattle.mb_program.proofs.running.refused.Goals as goal

pub returns-clause-comes : goal.returns-clause-comes
returns-clause-comes g c = λ manner job disk is.
    comes_of_refusal g.D.Disk.told g.D.Disk.faults manner job disk c.args.refusal.disk c.args.refusal.fault c.refused_as.result is c.refused_as.ensures
