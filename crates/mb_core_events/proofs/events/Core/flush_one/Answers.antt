use Rattle.std.proofs.Common.{subst}
use Rattle.mb_cache.specs.State.{Flushes}
use Rattle.mb_core_spec.specs.State.{CoreState}
use Rattle.mb_core_events.proofs.RightsOfRecovery.{flushed_right}
use Rattle.mb_core_events.proofs.events.Core.flush_one.Goals as goal

pub invariant_of-self : goal.invariant_of-self
invariant_of-self g c = flushed_right g.D.Disk.told g.D.Disk.faults c.self.inside.fields c.self.invariant c.flush_one.new.self c.flush_one.result c.flush_one.ensures.flushes c.flush_one.ensures.rest c.flush_one.ensures.room

pub returns-clause-flushes : goal.returns-clause-flushes
returns-clause-flushes g c = subst (λ (core : CoreState _ _). Flushes g.D.Disk.told g.D.Disk.faults core.cache c.flush_one.new.self.cache c.flush_one.result) c.self.view_is c.flush_one.ensures.flushes

pub returns-clause-right : goal.returns-clause-right
returns-clause-right g c = invariant_of-self g c
