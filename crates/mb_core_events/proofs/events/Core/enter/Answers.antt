use Rattle.std.proofs.Common.{◌≡◌, Some, slice_get, arith, subst, sym}
use Rattle.mb_core_spec.specs.State.{CallerState, CoreState}
use Rattle.mb_core_state.specs.Entering.{Enters}
use Rattle.mb_core_events.specs.Callings.{MayCall}
use Rattle.mb_core_events.proofs.Knowing.{few_callers, few_records, has_pins, state_of}
use Rattle.mb_core_events.proofs.RightsOfEnter.{comes_in, entered_right}
use Rattle.mb_core_events.proofs.events.Core.enter.Goals as goal

pub enter-requires-clause-few : goal.enter-requires-clause-few
enter-requires-clause-few g c = few_callers g.D.Disk.told g.D.Disk.faults c.self.inside.fields c.self.invariant

pub enter-requires-clause-ready : goal.enter-requires-clause-ready
enter-requires-clause-ready g c =
    let may = subst (λ (core : CoreState _ _). MayCall core c.args.caller c.args.call.now) (sym c.self.view_is) c.requires in
    let here = state_of g.D.Disk.told g.D.Disk.faults c.self.inside.fields c.self.invariant c.args.caller may.declared in
    (here.0, here.1, comes_in g.D.Disk.told g.D.Disk.faults c.self.inside.fields c.self.invariant c.args.caller here.0 here.1 c.args.call.now c.call_allowed.ensures may)

pub enter-requires-clause-pins : goal.enter-requires-clause-pins
enter-requires-clause-pins g c = has_pins g.D.Disk.told g.D.Disk.faults c.self.inside.fields c.self.invariant c.args.caller

pub enter-requires-clause-seats : goal.enter-requires-clause-seats
enter-requires-clause-seats g c =
    let may = subst (λ (core : CoreState _ _). MayCall core c.args.caller c.args.call.now) (sym c.self.view_is) c.requires in
    let low = may.declared in
    let seats = c.self.invariant.orderly.sessions in
    let callers = c.self.invariant.orderly.numbered.callers_are in
    omega (arith, low, seats, callers)

pub enter-requires-clause-records : goal.enter-requires-clause-records
enter-requires-clause-records g c = let few = few_records g.D.Disk.told g.D.Disk.faults c.self.inside.fields c.self.invariant in omega (arith, few)

pub invariant_of-self : goal.invariant_of-self
invariant_of-self g c =
    let may = subst (λ (core : CoreState _ _). MayCall core c.args.caller c.args.call.now) (sym c.self.view_is) c.requires in
    let here = state_of g.D.Disk.told g.D.Disk.faults c.self.inside.fields c.self.invariant c.args.caller may.declared in
    entered_right g.D.Disk.told g.D.Disk.faults c.self.inside.fields c.self.invariant c.args.caller here.0 here.1 c.args.call.now c.call_allowed.ensures may c.enter.new.self c.enter.result (c.enter.ensures here.0 here.1)

pub returns-clause-enters : goal.returns-clause-enters
returns-clause-enters g c = subst (λ (core : CoreState _ _). (mine : CallerState) → slice_get core.callers c.args.caller ≡ Some mine → Enters core c.enter.new.self c.args.caller mine c.args.call.now c.enter.result) c.self.view_is c.enter.ensures

pub returns-clause-right : goal.returns-clause-right
returns-clause-right g c = invariant_of-self g c
