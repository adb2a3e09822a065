use Rattle.std.proofs.Common.{◌≡◌, IsSome, Option, Some, slice_get, refl, subst, sym}
use Rattle.mb_kinds.specs.declared.entries.Flight.{Flight}
use Rattle.mb_core_spec.specs.State.{CallerState, CoreState}
use Rattle.mb_core_state.specs.Answers.{Gathering}
use Rattle.mb_core_events.specs.Callings.{IsUnanswered}
use Rattle.mb_core_events.proofs.Knowing.{has_entry_room, has_pins}
use Rattle.mb_core_events.proofs.RightsOfGather.{gathered_right}
use Rattle.mb_core_events.proofs.events.Core.gather.Goals as goal

pub gather-requires-clause-flight : goal.gather-requires-clause-flight
gather-requires-clause-flight g c =
    let of = (subst (λ (core : CoreState _ _). IsUnanswered core c.args.ticket.now) (sym c.self.view_is) c.requires.ticket).0 in
    (of.mine, of.here, subst (λ (o : Option Flight). IsSome o) (sym of.flies) refl)

pub gather-requires-clause-pins : goal.gather-requires-clause-pins
gather-requires-clause-pins g c = has_pins g.D.Disk.told g.D.Disk.faults c.self.inside.fields c.self.invariant c.args.ticket.now.caller

pub gather-requires-clause-room : goal.gather-requires-clause-room
gather-requires-clause-room g c =
    let has = subst (λ (core : CoreState _ _). IsUnanswered core c.args.ticket.now) (sym c.self.view_is) c.requires.ticket in
    has_entry_room g.D.Disk.told g.D.Disk.faults c.self.inside.fields c.self.invariant c.args.ticket.now.caller has.0.mine has.0.flight has.0.here has.0.flies has.1

pub invariant_of-self : goal.invariant_of-self
invariant_of-self g c = gathered_right g.D.Disk.told g.D.Disk.faults c.self.inside.fields c.self.invariant c.gather.new.self c.args.ticket.now c.args.need c.args.pages.now c.gather.new.pages c.gather.result
    (subst (λ (core : CoreState _ _). IsUnanswered core c.args.ticket.now) (sym c.self.view_is) c.requires.ticket) c.requires.need
    c.gather.ensures.gathers c.gather.ensures.told c.gather.ensures.later c.gather.ensures.room c.gather.ensures.kept

pub returns-clause-gathers : goal.returns-clause-gathers
returns-clause-gathers g c = subst (λ (core : CoreState _ _). (mine : CallerState) (flight : Flight) → slice_get core.callers c.args.ticket.now.caller ≡ Some mine → mine.flight ≡ Some flight
    → Gathering g.D.Disk.told g.D.Disk.faults core c.gather.new.self c.args.ticket.now c.args.need mine flight c.args.pages.now c.gather.new.pages c.gather.result) c.self.view_is c.gather.ensures.gathers

pub returns-clause-right : goal.returns-clause-right
returns-clause-right g c = invariant_of-self g c
