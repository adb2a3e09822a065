use Rattle.std.proofs.Common.{ap, ◌∙◌}
use Rattle.mb_plan.specs.Hooked.{Hooked}
use Rattle.mb_volume_core.specs.declared.volume_core.Origin.{Origin}
use Rattle.mb_program.proofs.Runs.{driven_alone}
use Rattle.mb_program.proofs.running.run_begun.Goals as goal

pub drive-core-requires-clause-runnable : goal.drive-core-requires-clause-runnable
drive-core-requires-clause-runnable g c = c.requires.fit.runnable

pub returns-clause-core : goal.returns-clause-core
returns-clause-core g c = λ disk fs over.
    c.end_run.ensures.core disk fs (ap g.D.Disk.told (ap (λ (o : Origin g.row.D.Denot). o.first) c.drive-core.ensures.origin) ∙ over.over.first) (λ going.
    driven_alone g.D.Disk.told g.D.Disk.faults c.args.manner fs c.args.job.now disk c.args.core c.drive-core.result.core.core _ c.drives_apart.ensures c.drives_keep_order.ensures c.in_order.ensures c.requires.alone c.requires.fit
    (ap (λ (h : Hooked). h.rules) c.hook-hook.ensures) over c.drive-core.ensures.origin (c.drive-core.ensures.driven going))
