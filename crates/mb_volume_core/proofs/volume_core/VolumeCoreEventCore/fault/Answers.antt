use Rattle.mb_core_events.proofs.Knowing.{runs_now}
use Rattle.mb_run.specs.CoreSight.{sight_of}
use Rattle.mb_run.proofs.InTime.{faults_time}
use Rattle.mb_volume_core.proofs.Orderly.{orderly}
use Rattle.mb_volume_core.proofs.Standing.{fault_stands}
use Rattle.mb_volume_core.proofs.Striking.{fault_origin, faults_by, holds_ticket}
use Rattle.mb_volume_core.proofs.volume_core.VolumeCoreEventCore.fault.Goals as goal

pub fault-requires-clause-holder : goal.fault-requires-clause-holder
fault-requires-clause-holder g c = holds_ticket c.args.self.now.core c.args.ticket.now c.requires.ticket

pub returns-clause-faults : goal.returns-clause-faults
returns-clause-faults g c = faults_by c.args.self.now.core c.fault.new.self c.args.ticket.now c.args.kind c.args.nth (g.H.Hook.strokes c.args.hook.now) c.fault.result c.fault.ensures.strikes

pub returns-clause-stands : goal.returns-clause-stands
returns-clause-stands g c = λ recovered.
    let of = holds_ticket c.args.self.now.core c.args.ticket.now c.requires.ticket in
    fault_stands (sight_of c.args.self.now.core) (sight_of c.fault.new.self) c.args.ticket.now (runs_now g.D.Disk.told g.D.Disk.faults c.args.self.now.core c.in_order.ensures c.args.ticket.now of) recovered c.args.kind c.args.nth c.fault.result (returns-clause-faults g c)

pub returns-clause-origin : goal.returns-clause-origin
returns-clause-origin g c = fault_origin c.args.self.now.core c.fault.new.self c.args.ticket.now c.args.kind c.args.nth (g.H.Hook.strokes c.args.hook.now) c.fault.result c.fault.ensures.strikes

pub returns-clause-right : goal.returns-clause-right
returns-clause-right g c = orderly g.D.Disk.told g.D.Disk.faults c.fault.new.self c.fault.ensures.right (faults_time _ _ c.args.ticket.now c.args.kind c.args.nth _ (returns-clause-faults g c) c.requires.right.seals)
