use Rattle.std.proofs.Common.{◌≡◌, ◌<◌, length, subst, sym}
use Rattle.mb_core_spec.specs.State.{CoreState}
use Rattle.mb_core_state.specs.declared.answers.Phase.TheVariants as phase
use Rattle.mb_core_events.specs.Callings.{phase_now}
use Rattle.mb_core_events.proofs.RightsOfRecovery.{drop_room, failed_right}
use Rattle.mb_core_events.proofs.events.Core.give_up.Goals as goal

pub give_up-requires-clause-room : goal.give_up-requires-clause-room
give_up-requires-clause-room g c = drop_room g.D.Disk.told g.D.Disk.faults c.self.inside.fields c.self.invariant (subst (λ (core : CoreState _ _). phase_now core ≡ phase.Drop) (sym c.self.view_is) c.requires.phase)

pub invariant_of-self : goal.invariant_of-self
invariant_of-self g c = failed_right g.D.Disk.told g.D.Disk.faults c.self.inside.fields c.self.invariant c.give_up.new.self
    (subst (λ (core : CoreState _ _). phase_now core ≡ phase.Drop) (sym c.self.view_is) c.requires.phase)
    (subst (λ (core : CoreState _ _). core.config.limit < length core.journal.records) (sym c.self.view_is) c.requires.many) c.give_up.ensures.failed c.give_up.ensures.room

pub returns-clause-right : goal.returns-clause-right
returns-clause-right g c = invariant_of-self g c
