use Rattle.std.proofs.Common.{◌≡◌, ◌<◌, IfErr, IfSome, OnOk, length, subst, sym}
use Rattle.mb_core_spec.specs.State.{CoreState}
use Rattle.mb_core_state.specs.Redoing.{FailsStep, IsRemounted}
use Rattle.mb_core_state.specs.declared.answers.Phase.TheVariants as phase
use Rattle.mb_core_events.specs.Callings.{phase_now}
use Rattle.mb_core_events.proofs.Knowing.{few_logged}
use Rattle.mb_core_events.proofs.RightsOfRedo.{callers_if, open_room_if, pins_if, remounted_right}
use Rattle.mb_core_events.proofs.events.Core.remount.Goals as goal

pub remount-requires-clause-few : goal.remount-requires-clause-few
remount-requires-clause-few g c = few_logged g.D.Disk.told g.D.Disk.faults c.self.inside.fields c.self.invariant

pub remount-requires-clause-caller : goal.remount-requires-clause-caller
remount-requires-clause-caller g c = callers_if g.D.Disk.told g.D.Disk.faults c.self.inside.fields c.self.invariant c.args.by
    (subst (λ (core : CoreState _ _). IfSome c.args.by (λ caller. caller < length core.config.callers)) (sym c.self.view_is) c.requires.by)

pub remount-requires-clause-pins : goal.remount-requires-clause-pins
remount-requires-clause-pins g c = pins_if g.D.Disk.told g.D.Disk.faults c.self.inside.fields c.self.invariant c.args.by

pub remount-requires-clause-room : goal.remount-requires-clause-room
remount-requires-clause-room g c = open_room_if g.D.Disk.told g.D.Disk.faults c.self.inside.fields c.self.invariant c.args.by

pub invariant_of-self : goal.invariant_of-self
invariant_of-self g c = remounted_right g.D.Disk.told g.D.Disk.faults c.self.inside.fields c.self.invariant c.remount.new.self c.args.by c.remount.result
    (subst (λ (core : CoreState _ _). phase_now core ≡ phase.Remount) (sym c.self.view_is) c.requires.phase)
    (subst (λ (core : CoreState _ _). IfSome c.args.by (λ caller. caller < length core.config.callers)) (sym c.self.view_is) c.requires.by)
    c.remount.ensures.ok c.remount.ensures.err c.remount.ensures.told c.remount.ensures.later c.remount.ensures.room

pub returns-clause-ok : goal.returns-clause-ok
returns-clause-ok g c = subst (λ (core : CoreState _ _). OnOk c.remount.result (IsRemounted core c.remount.new.self)) c.self.view_is c.remount.ensures.ok

pub returns-clause-err : goal.returns-clause-err
returns-clause-err g c = subst (λ (core : CoreState _ _). IfErr c.remount.result (FailsStep g.D.Disk.faults core c.remount.new.self c.args.by)) c.self.view_is c.remount.ensures.err

pub returns-clause-right : goal.returns-clause-right
returns-clause-right g c = invariant_of-self g c
