use Rattle.std.proofs.Common.{◌≡◌, ◌<◌, ℕ, IfErr, IfSome, OnOk, Some, length, slice_get, subst, sym}
use Rattle.mb_oplog.specs.declared.oplogs.Logged.{Logged}
use Rattle.mb_core_spec.specs.State.{CoreState}
use Rattle.mb_core_spec.specs.declared.stages.Stage.TheVariants as stage
use Rattle.mb_core_state.specs.Redoing.{FailsStep, IsReplayed}
use Rattle.mb_core_events.specs.Callings.{MayReplayNow, phase_now}
use Rattle.mb_core_events.proofs.Knowing.{few_logged}
use Rattle.mb_core_events.proofs.RightsOfRedo.{callers_if, next_now, open_room_if, pins_if, replayed_right}
use Rattle.mb_core_events.proofs.events.Core.replay_one.Goals as goal

pub replay_one-requires-clause-next : goal.replay_one-requires-clause-next
replay_one-requires-clause-next g c = next_now g.D.Disk.told g.D.Disk.faults c.self.inside.fields c.self.invariant (subst (λ (core : CoreState _ _). MayReplayNow (phase_now core)) (sym c.self.view_is) c.requires.phase)

pub replay_one-requires-clause-few : goal.replay_one-requires-clause-few
replay_one-requires-clause-few g c = few_logged g.D.Disk.told g.D.Disk.faults c.self.inside.fields c.self.invariant

pub replay_one-requires-clause-caller : goal.replay_one-requires-clause-caller
replay_one-requires-clause-caller g c = callers_if g.D.Disk.told g.D.Disk.faults c.self.inside.fields c.self.invariant c.args.by
    (subst (λ (core : CoreState _ _). IfSome c.args.by (λ caller. caller < length core.config.callers)) (sym c.self.view_is) c.requires.by)

pub replay_one-requires-clause-pins : goal.replay_one-requires-clause-pins
replay_one-requires-clause-pins g c = pins_if g.D.Disk.told g.D.Disk.faults c.self.inside.fields c.self.invariant c.args.by

pub replay_one-requires-clause-room : goal.replay_one-requires-clause-room
replay_one-requires-clause-room g c = open_room_if g.D.Disk.told g.D.Disk.faults c.self.inside.fields c.self.invariant c.args.by

pub invariant_of-self : goal.invariant_of-self
invariant_of-self g c = replayed_right g.D.Disk.told g.D.Disk.faults c.self.inside.fields c.self.invariant c.counts_follow_operations.ensures.replay c.replay_one.new.self c.args.by c.replay_one.result
    (subst (λ (core : CoreState _ _). MayReplayNow (phase_now core)) (sym c.self.view_is) c.requires.phase)
    (subst (λ (core : CoreState _ _). IfSome c.args.by (λ caller. caller < length core.config.callers)) (sym c.self.view_is) c.requires.by)
    c.replay_one.ensures.ok c.replay_one.ensures.err c.replay_one.ensures.told c.replay_one.ensures.later c.replay_one.ensures.room

pub returns-clause-ok : goal.returns-clause-ok
returns-clause-ok g c = subst (λ (core : CoreState _ _). OnOk c.replay_one.result ((done : ℕ) (logged : Logged) → core.stage ≡ stage.Restored done → slice_get core.journal.oplog done ≡ Some logged
    → IsReplayed g.D.Disk.told core c.replay_one.new.self done logged)) c.self.view_is c.replay_one.ensures.ok

pub returns-clause-err : goal.returns-clause-err
returns-clause-err g c = subst (λ (core : CoreState _ _). IfErr c.replay_one.result (FailsStep g.D.Disk.faults core c.replay_one.new.self c.args.by)) c.self.view_is c.replay_one.ensures.err

pub returns-clause-right : goal.returns-clause-right
returns-clause-right g c = invariant_of-self g c
