use Rattle.std.proofs.Common.{ap}
use Rattle.mb_kinds.specs.declared.faults.Ticket.{Ticket}
use Rattle.mb_core_order.proofs.RightsOfCalls.{right_enters}
use Rattle.mb_core_order.proofs.laws.call_enters.Goals as goal

pub returns : goal.returns
returns g c = λ core at mine flight ticket reserved room r may. right_enters g.D.Disk.told g.D.Disk.faults core r at mine may.here flight may.flies may.unanswered may.outside may.runs ticket (ap (λ (t : Ticket). t.caller) may.ticket_is)
    (ap (λ (t : Ticket). t.ordinal) may.ticket_is) (ap (λ (t : Ticket). t.moment) may.ticket_is) (ap (λ (t : Ticket). t.incarnation) may.ticket_is) reserved room may.marks may.records may.entries
