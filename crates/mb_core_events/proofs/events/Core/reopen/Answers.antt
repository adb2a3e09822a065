use Rattle.std.proofs.Common.{◌≡◌, subst, sym}
use Rattle.mb_core_spec.specs.State.{CoreState}
use Rattle.mb_core_state.specs.declared.answers.Phase.TheVariants as phase
use Rattle.mb_core_events.specs.Callings.{phase_now}
use Rattle.mb_core_events.proofs.RightsOfRecovery.{reopened_right}
use Rattle.mb_core_events.proofs.events.Core.reopen.Goals as goal

pub invariant_of-self : goal.invariant_of-self
invariant_of-self g c = reopened_right g.D.Disk.told g.D.Disk.faults c.self.inside.fields c.self.invariant c.reopen.new.self c.reopen.result
    (subst (λ (core : CoreState _ _). phase_now core ≡ phase.Reopen) (sym c.self.view_is) c.requires) c.reopen.ensures.ok c.reopen.ensures.err c.reopen.ensures.room

pub returns-clause-right : goal.returns-clause-right
returns-clause-right g c = invariant_of-self g c
