use Rattle.std.proofs.Common.{◌≡◌, arith, IsSome, Option, Some, slice_get, refl, subst, sym}
use Rattle.mb_kinds.specs.declared.entries.Flight.{Flight}
use Rattle.mb_core_spec.specs.State.{CallerState, CoreState}
use Rattle.mb_core_state.specs.Finishing.{Finishes}
use Rattle.mb_core_events.specs.Callings.{MayFinish}
use Rattle.mb_core_events.proofs.Knowing.{caller_within, has_pins, within}
use Rattle.mb_core_events.proofs.RightsOfFinish.{few_changes, finished_right, holder_flies}
use Rattle.mb_core_events.proofs.events.Core.finish.Goals as goal

pub finish-requires-clause-flight : goal.finish-requires-clause-flight
finish-requires-clause-flight g c =
    let of = (subst (λ (core : CoreState _ _). MayFinish core c.args.ticket.now c.args.pages.now c.args.ready) (sym c.self.view_is) c.requires).of in
    (of.mine, of.here, subst (λ (o : Option Flight). IsSome o) (sym of.flies) refl)

pub finish-requires-clause-inside : goal.finish-requires-clause-inside
finish-requires-clause-inside g c = λ present.
    let of = (subst (λ (core : CoreState _ _). MayFinish core c.args.ticket.now c.args.pages.now c.args.ready) (sym c.self.view_is) c.requires).of in
    (of.mine, of.here, (within g.D.Disk.told g.D.Disk.faults c.self.inside.fields c.self.invariant c.args.ticket.now of present).inside)

pub finish-requires-clause-pins : goal.finish-requires-clause-pins
finish-requires-clause-pins g c = has_pins g.D.Disk.told g.D.Disk.faults c.self.inside.fields c.self.invariant c.args.ticket.now.caller

pub finish-requires-clause-holder : goal.finish-requires-clause-holder
finish-requires-clause-holder g c = holder_flies g.D.Disk.told g.D.Disk.faults c.self.inside.fields c.self.invariant

pub finish-requires-clause-seats : goal.finish-requires-clause-seats
finish-requires-clause-seats g c =
    let of = (subst (λ (core : CoreState _ _). MayFinish core c.args.ticket.now c.args.pages.now c.args.ready) (sym c.self.view_is) c.requires).of in
    let low = caller_within g.D.Disk.told g.D.Disk.faults c.self.inside.fields c.self.invariant c.args.ticket.now.caller of.mine of.here in
    let same = c.self.invariant.orderly.sessions in
    omega (arith, low, same)

pub finish-requires-clause-stamps : goal.finish-requires-clause-stamps
finish-requires-clause-stamps g c = few_changes g.D.Disk.told g.D.Disk.faults c.self.inside.fields c.self.invariant

pub invariant_of-self : goal.invariant_of-self
invariant_of-self g c = finished_right g.D.Disk.told g.D.Disk.faults c.self.inside.fields c.self.invariant c.counts_follow_operations.ensures.effect c.tables_move.ensures.moves c.tables_move.ensures.once c.finish.new.self c.args.ticket.now c.args.pages.now c.args.ready
    (subst (λ (core : CoreState _ _). MayFinish core c.args.ticket.now c.args.pages.now c.args.ready) (sym c.self.view_is) c.requires) c.finish.result
    c.finish.ensures.finishes c.finish.ensures.room c.finish.ensures.changes

pub returns-clause-finishes : goal.returns-clause-finishes
returns-clause-finishes g c = subst (λ (core : CoreState _ _). (mine : CallerState) (flight : Flight) → slice_get core.callers c.args.ticket.now.caller ≡ Some mine → mine.flight ≡ Some flight
    → Finishes core c.finish.new.self c.args.ticket.now mine flight c.args.pages.now c.args.ready c.finish.result) c.self.view_is c.finish.ensures.finishes

pub returns-clause-right : goal.returns-clause-right
returns-clause-right g c = invariant_of-self g c
