use Rattle.std.proofs.Common.{◌≡◌, arith, subst, sym}
use Rattle.mb_core_spec.specs.State.{CoreState}
use Rattle.mb_core_spec.specs.declared.stages.Stage.TheVariants as stage
use Rattle.mb_core_events.proofs.Knowing.{few_entries}
use Rattle.mb_core_events.proofs.RightsOfRecovery.{sealed_right}
use Rattle.mb_core_events.proofs.events.Core.seal.Goals as goal

pub seal-requires : goal.seal-requires
seal-requires g c = let few = few_entries g.D.Disk.told g.D.Disk.faults c.self.inside.fields c.self.invariant in omega (arith, few)

pub invariant_of-self : goal.invariant_of-self
invariant_of-self g c = sealed_right g.D.Disk.told g.D.Disk.faults c.self.inside.fields c.self.invariant c.seal.new.self c.seal.result
    (subst (λ (core : CoreState _ _). core.stage ≡ stage.Running) (sym c.self.view_is) c.requires) c.seal.ensures.ok c.seal.ensures.err c.seal.ensures.marks c.seal.ensures.kept c.seal.ensures.room

pub returns-clause-right : goal.returns-clause-right
returns-clause-right g c = invariant_of-self g c
