use Rattle.mb_run.proofs.InTime.{gathers_time}
use Rattle.mb_volume_core.proofs.Gathering.{gathers_are, gathers_begun, holds_ticket}
use Rattle.mb_volume_core.proofs.Orderly.{orderly}
use Rattle.mb_volume_core.proofs.Standing.{gather_stands}
use Rattle.mb_volume_core.proofs.volume_core.VolumeCoreEventCore.gather.Goals as goal

pub gather-requires-clause-ticket : goal.gather-requires-clause-ticket
gather-requires-clause-ticket g c = holds_ticket c.args.self.now.core c.args.ticket.now _ c.requires.ticket

pub gather-requires-clause-need : goal.gather-requires-clause-need
gather-requires-clause-need g c = record { first = c.requires.first; some = c.requires.some; count = c.requires.count }

pub returns-clause-gathers : goal.returns-clause-gathers
returns-clause-gathers g c =
    gathers_are g.D.Disk.told g.D.Disk.faults c.args.self.now.core c.in_order.ensures c.gather.new.self c.args.ticket.now c.args.need (record { first = c.requires.first; some = c.requires.some; count = c.requires.count }) c.args.pages.now c.gather.new.pages
    c.gather.result (holds_ticket c.args.self.now.core c.args.ticket.now _ c.requires.ticket) c.gather.ensures.gathers

pub returns-clause-stands : goal.returns-clause-stands
returns-clause-stands g c =
    let core = c.args.self.now.core in
    let of = holds_ticket core c.args.ticket.now _ c.requires.ticket in
    gather_stands core c.gather.new.self g.D.Disk.told g.D.Disk.faults c.args.ticket.now c.args.need of.0.mine of.0.flight of.0.here c.args.pages.now c.gather.new.pages c.gather.result (c.gather.ensures.gathers of.0.mine of.0.flight of.0.here of.0.flies)

pub returns-clause-origin : goal.returns-clause-origin
returns-clause-origin g c =
    gathers_begun g.D.Disk.told g.D.Disk.faults c.args.self.now.core c.in_order.ensures c.gather.new.self c.args.ticket.now c.args.need (record { first = c.requires.first; some = c.requires.some; count = c.requires.count }) c.args.pages.now c.gather.new.pages
    c.gather.result (holds_ticket c.args.self.now.core c.args.ticket.now _ c.requires.ticket) c.gather.ensures.gathers

pub returns-clause-right : goal.returns-clause-right
returns-clause-right g c = orderly g.D.Disk.told g.D.Disk.faults c.gather.new.self c.gather.ensures.right (gathers_time _ _ c.args.ticket.now c.args.need c.args.pages.now c.gather.new.pages _ c.requires.ticket (returns-clause-gathers g c) c.requires.right.seals)
