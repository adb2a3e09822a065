use Rattle.std.proofs.Common.{subst, sym}
use Rattle.mb_core_spec.specs.State.{CoreState}
use Rattle.mb_core_events.specs.Callings.{HasCall, MayMeetFault, phase_now}
use Rattle.mb_core_events.proofs.Knowing.{is_declared}
use Rattle.mb_core_events.proofs.RightsOfRecovery.{met_right, struck_roomy, unmet_right}
use Rattle.mb_core_events.proofs.events.Core.strike.Goals as goal

pub invariant_of-self : goal.invariant_of-self
invariant_of-self g c = unmet_right g.D.Disk.told g.D.Disk.faults c.self.inside.fields c.self.invariant c.reserve_fault.new.self c.reserve_fault.ensures.same c.reserve_fault.ensures.kept

pub returns-in_err-reserve_fault-clause-right : goal.returns-in_err-reserve_fault-clause-right
returns-in_err-reserve_fault-clause-right g c = unmet_right g.D.Disk.told g.D.Disk.faults c.self.inside.fields c.self.invariant c.reserve_fault.new.self c.reserve_fault.ensures.same c.reserve_fault.ensures.kept

pub invariant_of-self-2 : goal.invariant_of-self-2
invariant_of-self-2 g c =
    let of = subst (λ (core : CoreState _ _). HasCall core c.args.caller) (sym c.self.view_is) c.requires.struck.0 in
    met_right g.D.Disk.told g.D.Disk.faults c.self.inside.fields c.self.invariant c.reserve_fault.new.self c.strike_again.new.self c.args.caller c.ordinal_of-ordinal.result c.args.kind c.args.nth c.in-Some.damage.now
    (subst (λ (core : CoreState _ _). MayMeetFault (phase_now core)) (sym c.self.view_is) c.requires.phase)
    (is_declared g.D.Disk.told g.D.Disk.faults c.self.inside.fields c.self.invariant c.args.caller of.mine of.here) c.reserve_fault.ensures.kept c.in_ok-reserve_fault.ensures.ok.1
    (struck_roomy c.self.inside.fields c.reserve_fault.new.self c.strike_again.new.self c.args.caller c.ordinal_of-ordinal.result c.args.kind c.args.nth c.in-Some.damage.now c.reserve_fault.ensures.same c.strike_again.ensures.struck)
    c.strike_again.ensures.room

pub returns-clause-right : goal.returns-clause-right
returns-clause-right g c = invariant_of-self-2 g c
