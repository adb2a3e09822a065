use Rattle.std.proofs.Common.{◌∙◌}
use Rattle.mb_run.proofs.InTime.{leaves_time}
use Rattle.mb_volume_core.proofs.Behind.{behind_origin, faults_later, leaves_behind, writes_behind}
use Rattle.mb_volume_core.proofs.Leaving.{has_entry, leaves_by, left_origin}
use Rattle.mb_volume_core.proofs.Orderly.{orderly}
use Rattle.mb_volume_core.proofs.Standing.{leave_stands}
use Rattle.mb_volume_core.proofs.volume_core.VolumeCoreEventCore.leave.Goals as goal

pub leave-left-requires : goal.leave-left-requires
leave-left-requires g c = has_entry c.args.self.now.core c.args.ticket.now c.requires.ticket

pub returns-clause-leaves : goal.returns-clause-leaves
returns-clause-leaves g c =
    let core = c.args.self.now.core in
    let has = has_entry core c.args.ticket.now c.requires.ticket in
    let leaves =
    leaves_by core c.leave-left.new.self c.args.ticket.now has.0.mine (c.in_order.ensures.orderly.answers c.args.ticket.now.caller has.0.mine has.0.here) has.0.here has.0.flight c.leave-left.result has.0.flies has.1 (c.leave-left.ensures.leaves has.0.mine has.0.here) in
    leaves_behind g.D.Disk.told g.D.Disk.faults core c.leave-left.new.self c.write_behind.new.core c.args.ticket.now c.leave-left.result leaves c.write_behind.ensures.flushes

pub returns-clause-behind : goal.returns-clause-behind
returns-clause-behind g c =
    let core = c.args.self.now.core in
    let has = has_entry core c.args.ticket.now c.requires.ticket in
    writes_behind g.D.Disk.told g.D.Disk.faults core c.leave-left.new.self c.write_behind.new.core c.args.ticket.now has.0.mine c.leave-left.result (c.leave-left.ensures.leaves has.0.mine has.0.here) c.write_behind.ensures.flushes

pub returns-clause-later : goal.returns-clause-later
returns-clause-later g c =
    let core = c.args.self.now.core in
    let has = has_entry core c.args.ticket.now c.requires.ticket in
    faults_later g.D.Disk.told g.D.Disk.faults core c.leave-left.new.self c.write_behind.new.core c.args.ticket.now has.0.mine c.leave-left.result (c.leave-left.ensures.leaves has.0.mine has.0.here) c.write_behind.ensures.flushes

pub returns-clause-stands : goal.returns-clause-stands
returns-clause-stands g c =
    let core = c.args.self.now.core in
    let has = has_entry core c.args.ticket.now c.requires.ticket in
    leave_stands g.D.Disk.told g.D.Disk.faults core c.leave-left.new.self c.write_behind.new.core c.args.ticket.now has.0.mine has.0.here c.leave-left.result (c.leave-left.ensures.leaves has.0.mine has.0.here) c.write_behind.ensures.flushes

pub returns-clause-origin : goal.returns-clause-origin
returns-clause-origin g c =
    let core = c.args.self.now.core in
    let has = has_entry core c.args.ticket.now c.requires.ticket in
    behind_origin g.D.Disk.told g.D.Disk.faults core c.leave-left.new.self c.write_behind.new.core c.args.ticket.now c.leave-left.result c.write_behind.ensures.flushes
    ∙ left_origin core c.leave-left.new.self c.args.ticket.now has.0.mine c.leave-left.result (c.leave-left.ensures.leaves has.0.mine has.0.here)

pub returns-clause-right : goal.returns-clause-right
returns-clause-right g c = orderly g.D.Disk.told g.D.Disk.faults c.write_behind.new.core c.write_behind.ensures.right (leaves_time _ _ c.args.ticket.now _ (returns-clause-leaves g c) c.requires.right.seals)
