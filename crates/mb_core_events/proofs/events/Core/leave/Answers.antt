use Rattle.std.proofs.Common.{subst, sym}
use Rattle.mb_core_spec.specs.State.{CoreState}
use Rattle.mb_core_events.specs.Callings.{CallHasEntry}
use Rattle.mb_core_events.proofs.Knowing.{has_answer, has_pins}
use Rattle.mb_core_events.proofs.RightsOfCalls.{has_fault_room, left_right}
use Rattle.mb_core_events.proofs.events.Core.leave.Goals as goal

pub leave-requires-clause-answer : goal.leave-requires-clause-answer
leave-requires-clause-answer g c =
    let has = subst (λ (core : CoreState _ _). CallHasEntry core c.args.ticket.now) (sym c.self.view_is) c.requires in
    has_answer g.D.Disk.told g.D.Disk.faults c.self.inside.fields c.self.invariant c.args.ticket.now has.0 has.1

pub leave-requires-clause-pins : goal.leave-requires-clause-pins
leave-requires-clause-pins g c = has_pins g.D.Disk.told g.D.Disk.faults c.self.inside.fields c.self.invariant c.args.ticket.now.caller

pub leave-requires-clause-room : goal.leave-requires-clause-room
leave-requires-clause-room g c = λ present.
    (has_fault_room g.D.Disk.told g.D.Disk.faults c.self.inside.fields c.self.invariant c.args.ticket.now
    (subst (λ (core : CoreState _ _). CallHasEntry core c.args.ticket.now) (sym c.self.view_is) c.requires).0 present).1

pub invariant_of-self : goal.invariant_of-self
invariant_of-self g c = left_right g.D.Disk.told g.D.Disk.faults c.self.inside.fields c.self.invariant c.leave.new.self c.args.ticket.now c.leave.result
    (subst (λ (core : CoreState _ _). CallHasEntry core c.args.ticket.now) (sym c.self.view_is) c.requires) c.leave.ensures.leaves c.leave.ensures.room

pub returns-clause-right : goal.returns-clause-right
returns-clause-right g c = invariant_of-self g c
