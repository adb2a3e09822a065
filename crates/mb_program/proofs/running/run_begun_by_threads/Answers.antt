use Rattle.std.proofs.Common.{ap, refl, ◌∙◌}
use Rattle.mb_program.proofs.Threads.{driven_by_threads}
use Rattle.mb_program.proofs.running.run_begun_by_threads.Goals as goal

pub drive_threads-core-requires-clause-runnable : goal.drive_threads-core-requires-clause-runnable
drive_threads-core-requires-clause-runnable g c = λ κs outlives. c.requires.fit.runnable

pub returns-clause-core : goal.returns-clause-core
returns-clause-core g c = λ disk fs over.
    c.end_run.ensures.core disk fs (ap g.D.Disk.told c.drive_threads-core.ensures.first ∙ over.over.first) (λ going.
    driven_by_threads g.D.Disk.told g.D.Disk.faults fs c.args.job.now disk c.args.core c.drive_threads-core.result.core.core c.in-Ok.hooks.items _ c.in-Ok.ensures refl c.requires.begun c.in_order-2.ensures over
    c.drive_threads-core.ensures.first c.drive_threads-core.ensures.config (c.drive_threads-core.ensures.driven going))
