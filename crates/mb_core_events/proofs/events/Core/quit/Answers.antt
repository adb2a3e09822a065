use Rattle.std.proofs.Common.{subst, sym}
use Rattle.mb_core_spec.specs.State.{CoreState}
use Rattle.mb_core_events.specs.Callings.{HasOpenCall}
use Rattle.mb_core_events.proofs.Knowing.{has_pins}
use Rattle.mb_core_events.proofs.RightsOfCalls.{quit_right}
use Rattle.mb_core_events.proofs.events.Core.quit.Goals as goal

pub quit-requires-clause-pins : goal.quit-requires-clause-pins
quit-requires-clause-pins g c = has_pins g.D.Disk.told g.D.Disk.faults c.self.inside.fields c.self.invariant c.args.caller

pub invariant_of-self : goal.invariant_of-self
invariant_of-self g c = quit_right g.D.Disk.told g.D.Disk.faults c.self.inside.fields c.self.invariant c.quit.new.self c.args.caller
    (subst (λ (core : CoreState _ _). HasOpenCall core c.args.caller) (sym c.self.view_is) c.requires) c.quit.ensures.quit c.quit.ensures.room

pub returns-clause-right : goal.returns-clause-right
returns-clause-right g c = invariant_of-self g c
