use Rattle.std.proofs.Common.{◌≡◌, arith, subst, sym}
use Rattle.mb_core_spec.specs.State.{CoreState}
use Rattle.mb_core_state.specs.declared.answers.Phase.TheVariants as phase
use Rattle.mb_core_order.proofs.Keepings.{none_inside}
use Rattle.mb_core_events.specs.Callings.{phase_now}
use Rattle.mb_core_events.proofs.Knowing.{caller_within, has_pins}
use Rattle.mb_core_events.proofs.RightsOfRecovery.{has_ticket, some_now, ticket_caller, unwinds_by, unwound_right}
use Rattle.mb_core_events.proofs.events.Core.unwind.Goals as goal

pub unreachable-requires : goal.unreachable-requires
unreachable-requires g c =
    let some = some_now g.D.Disk.told g.D.Disk.faults c.self.inside.fields c.self.invariant (subst (λ (core : CoreState _ _). phase_now core ≡ phase.Unwind) (sym c.self.view_is) c.requires) in
    let none = none_inside c.self.inside.fields.callers c.in_default.ensures.none in
    omega (arith, some, none)

pub ticket-ticket-requires : goal.ticket-ticket-requires
ticket-ticket-requires g c = has_ticket g.D.Disk.told g.D.Disk.faults c.self.inside.fields c.self.invariant c.in-Some.caller c.in-Some.ensures.inside

pub unwind-requires-clause-caller : goal.unwind-requires-clause-caller
unwind-requires-clause-caller g c =
    let of = c.ticket-ticket.ensures in
    let whose = ticket_caller g.D.Disk.told g.D.Disk.faults c.self.inside.fields c.self.invariant c.in-Some.caller c.ticket-ticket.result of in
    let low = caller_within g.D.Disk.told g.D.Disk.faults c.self.inside.fields c.self.invariant c.in-Some.caller of.mine of.here in
    omega (arith, whose, low)

pub unwind-requires-clause-pins : goal.unwind-requires-clause-pins
unwind-requires-clause-pins g c = has_pins g.D.Disk.told g.D.Disk.faults c.self.inside.fields c.self.invariant c.ticket-ticket.result.caller

pub invariant_of-self : goal.invariant_of-self
invariant_of-self g c = unwound_right g.D.Disk.told g.D.Disk.faults c.self.inside.fields c.self.invariant c.unwind.new.self c.ticket-ticket.result
    (subst (λ (core : CoreState _ _). phase_now core ≡ phase.Unwind) (sym c.self.view_is) c.requires)
    (unwinds_by g.D.Disk.told g.D.Disk.faults c.self.inside.fields c.self.invariant c.unwind.new.self c.in-Some.caller c.ticket-ticket.result c.in-Some.ensures.inside c.in-Some.ensures.least c.ticket-ticket.ensures c.unwind.ensures.unwound) c.unwind.ensures.room

pub returns-clause-right : goal.returns-clause-right
returns-clause-right g c = invariant_of-self g c
