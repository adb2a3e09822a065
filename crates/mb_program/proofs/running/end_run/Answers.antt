use Rattle.std.proofs.Common.{◌≡◌, ◌≢◌, ◌∙◌, false, sym, true}
use Rattle.mb_run.specs.declared.drives.DriveEnd.TheVariants as end
use Rattle.mb_run.specs.declared.settles.SettleEnd.TheVariants as settled
use Rattle.mb_program.proofs.Runs.{comes_settled, comes_unsettled, holds}
use Rattle.mb_program.proofs.running.end_run.Goals as goal

pub returns-in-Clean-clause-core : goal.returns-in-Clean-clause-core
returns-in-Clean-clause-core g c = λ disk fs tells driven.
    let going : c.args.end ≢ end.NoMemory = λ same. (let clash : false ≡ true = rw same at c.if-eq.ensures in cc) in
    holds g.D.Disk.told g.D.Disk.faults c.args.manner c.args.job.now disk c.settle-core.result.core.core c.held-in-Clean.result.held c.ended-outcome.result c.held-in-Clean.result.outcome c.held-in-Clean.ensures.held c.held-in-Clean.ensures.outcome
    (comes_settled g.D.Disk.told g.D.Disk.faults c.args.manner c.args.job.now disk fs c.args.core.core c.settle-core.result.core.core (driven going) c.settle-core.ensures.origin c.settle-core.ensures.keeps
    (c.settle-core.ensures.seals (λ none. let clash : settled.Clean ≡ settled.NoMemory = sym c.in-Clean.is ∙ none in cc)) c.in_order-2.ensures c.settle-core.ensures.right
    c.ended-outcome.result c.paths_are_runs.ensures c.paths_end.ensures c.requires.fit (c.settle-core.ensures.settled c.in-Clean.is) c.ended-outcome.ensures.failed c.ended-outcome.ensures.runs)

pub returns-in-Device-clause-core : goal.returns-in-Device-clause-core
returns-in-Device-clause-core g c = λ disk fs tells driven.
    let going : c.args.end ≢ end.NoMemory = λ same. (let clash : false ≡ true = rw same at c.if-eq.ensures in cc) in
    holds g.D.Disk.told g.D.Disk.faults c.args.manner c.args.job.now disk c.settle-core.result.core.core c.held-in-Device.result.held c.unsettled-outcome.result c.held-in-Device.result.outcome c.held-in-Device.ensures.held c.held-in-Device.ensures.outcome
    (comes_unsettled g.D.Disk.told g.D.Disk.faults c.args.manner c.args.job.now disk fs c.args.core.core c.settle-core.result.core.core (driven going) c.settle-core.ensures.origin c.settle-core.ensures.keeps
    (c.settle-core.ensures.seals (λ none. let clash : settled.Device ≡ settled.NoMemory = sym c.in-Device.is ∙ none in cc)) c.in_order-2.ensures c.settle-core.ensures.right
    c.unsettled-outcome.result c.paths_are_runs.ensures c.paths_fail.ensures c.requires.fit c.in_order.ensures (c.settle-core.ensures.device c.in-Device.is) (c.settle-core.ensures.cut c.in-Device.is) c.unsettled-outcome.ensures)
