use Rattle.std.proofs.Common.{subst, sym}
use Rattle.mb_core_spec.specs.State.{CoreState}
use Rattle.mb_core_events.specs.Callings.{HoldsTicket}
use Rattle.mb_core_events.proofs.RightsOfCalls.{has_fault_room, struck_right}
use Rattle.mb_core_events.proofs.events.Core.fault.Goals as goal

pub fault-requires-clause-room : goal.fault-requires-clause-room
fault-requires-clause-room g c = has_fault_room g.D.Disk.told g.D.Disk.faults c.self.inside.fields c.self.invariant c.args.ticket.now
    (subst (λ (core : CoreState _ _). HoldsTicket core c.args.ticket.now) (sym c.self.view_is) c.requires.holder)

pub invariant_of-self : goal.invariant_of-self
invariant_of-self g c = struck_right g.D.Disk.told g.D.Disk.faults c.self.inside.fields c.self.invariant c.fault.new.self c.args.ticket.now c.args.kind c.args.nth c.in-Some.damage.now c.fault.result
    (subst (λ (core : CoreState _ _). HoldsTicket core c.args.ticket.now) (sym c.self.view_is) c.requires.holder) c.fault.ensures.strikes c.fault.ensures.room

pub returns-clause-right : goal.returns-clause-right
returns-clause-right g c = invariant_of-self g c
