use Rattle.std.proofs.Common.{◌∙◌, sym, subst}
use Rattle.mb_core_spec.specs.declared.ready.Ready.{Ready}
use Rattle.mb_core_events.specs.Callings.{MayFinish}
use Rattle.mb_core_events.proofs.Knowing.{runs_now}
use Rattle.mb_core_state.specs.Finishing.{Finishes as EndsBy}
use Rattle.mb_run.specs.CoreSight.{sight_of}
use Rattle.mb_run.proofs.InTime.{finishes_time}
use Rattle.mb_volume_core.proofs.Finishing.{finishes_are, finishes_begun, logged_runs, may_finish}
use Rattle.mb_volume_core.proofs.Gathering.{holds_ticket}
use Rattle.mb_volume_core.proofs.Orderly.{orderly}
use Rattle.mb_volume_core.proofs.Origins.{origin_is}
use Rattle.mb_volume_core.proofs.Standing.{finish_stands}
use Rattle.mb_volume_core.proofs.volume_core.VolumeCoreEventCore.finish.Goals as goal

pub finish-finished-requires : goal.finish-finished-requires
finish-finished-requires g c = subst (λ (ready : Ready). MayFinish c.args.self.now.core c.args.ticket.now c.args.pages.now ready) (sym c.as_ready.ensures)
    (may_finish g.D.Disk.told g.D.Disk.faults c.args.self.now.core c.in_order.ensures c.args.ticket.now c.args.pages.now c.args.ready c.requires.ticket c.requires.there c.requires.tables c.requires.ready)

pub seal_if_due-requires-clause-runs : goal.seal_if_due-requires-clause-runs
seal_if_due-requires-clause-runs g c = λ logged.
    let of = holds_ticket c.args.self.now.core c.args.ticket.now _ c.requires.ticket in
    logged_runs g.D.Disk.told g.D.Disk.faults c.args.self.now.core c.in_order.ensures c.args.ticket.now c.args.pages.now c.least_stale_block.ensures.floor c.finish-finished.new.self of.0 of.1 c.as_ready.result
    (subst (EndsBy c.args.self.now.core c.finish-finished.new.self c.args.ticket.now of.0.mine of.0.flight c.args.pages.now c.as_ready.result) logged (c.finish-finished.ensures.finishes of.0.mine of.0.flight of.0.here of.0.flies))

pub returns-clause-finishes : goal.returns-clause-finishes
returns-clause-finishes g c =
    let of = holds_ticket c.args.self.now.core c.args.ticket.now _ c.requires.ticket in
    finishes_are g.D.Disk.told g.D.Disk.faults c.args.self.now.core c.in_order.ensures c.args.ticket.now c.args.pages.now c.least_stale_block.ensures.floor c.finish-finished.new.self of.0 of.1 c.as_ready.result c.finish-finished.result
    (c.finish-finished.ensures.finishes of.0.mine of.0.flight of.0.here of.0.flies) c.seal_if_due.new.core c.args.call.now c.seal_if_due.ensures.seals

pub returns-clause-stands : goal.returns-clause-stands
returns-clause-stands g c = λ recovered.
    let of = holds_ticket c.args.self.now.core c.args.ticket.now _ c.requires.ticket in
    finish_stands (sight_of c.args.self.now.core) (sight_of c.seal_if_due.new.core) c.args.ticket.now (runs_now g.D.Disk.told g.D.Disk.faults c.args.self.now.core c.in_order.ensures c.args.ticket.now of.0) recovered c.args.pages.now c.args.call.now c.finish-finished.result (returns-clause-finishes g c)

pub returns-clause-origin : goal.returns-clause-origin
returns-clause-origin g c =
    let of = holds_ticket c.args.self.now.core c.args.ticket.now _ c.requires.ticket in
    origin_is c.finish-finished.new.self c.seal_if_due.new.core c.seal_if_due.ensures.first c.seal_if_due.ensures.config
    ∙ finishes_begun g.D.Disk.told g.D.Disk.faults c.args.self.now.core c.in_order.ensures c.args.ticket.now c.args.pages.now c.least_stale_block.ensures.floor c.finish-finished.new.self of.0 of.1 c.as_ready.result c.finish-finished.result
    (c.finish-finished.ensures.finishes of.0.mine of.0.flight of.0.here of.0.flies)

pub returns-clause-right : goal.returns-clause-right
returns-clause-right g c =
    orderly g.D.Disk.told g.D.Disk.faults c.seal_if_due.new.core c.seal_if_due.ensures.right
    (finishes_time _ _ c.args.ticket.now c.args.pages.now c.args.call.now _ c.requires.call (returns-clause-finishes g c) c.requires.right.seals)
