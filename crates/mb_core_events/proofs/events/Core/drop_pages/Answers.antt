use Rattle.std.proofs.Common.{◌≡◌, ◌≤◌, length, subst, sym}
use Rattle.mb_core_spec.specs.State.{CoreState}
use Rattle.mb_core_state.specs.declared.answers.Phase.TheVariants as phase
use Rattle.mb_core_events.specs.Callings.{phase_now}
use Rattle.mb_core_events.proofs.RightsOfRecovery.{drop_room, dropped_right}
use Rattle.mb_core_events.proofs.events.Core.drop_pages.Goals as goal

pub drop_pages-requires : goal.drop_pages-requires
drop_pages-requires g c = drop_room g.D.Disk.told g.D.Disk.faults c.self.inside.fields c.self.invariant (subst (λ (core : CoreState _ _). phase_now core ≡ phase.Drop) (sym c.self.view_is) c.requires.phase)

pub invariant_of-self : goal.invariant_of-self
invariant_of-self g c = dropped_right g.D.Disk.told g.D.Disk.faults c.self.inside.fields c.self.invariant c.drop_pages.new.self
    (subst (λ (core : CoreState _ _). phase_now core ≡ phase.Drop) (sym c.self.view_is) c.requires.phase)
    (subst (λ (core : CoreState _ _). length core.journal.records ≤ core.config.limit) (sym c.self.view_is) c.requires.few) c.drop_pages.ensures.dropped c.drop_pages.ensures.room

pub returns-clause-right : goal.returns-clause-right
returns-clause-right g c = invariant_of-self g c
