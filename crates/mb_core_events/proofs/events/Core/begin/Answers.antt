use Rattle.mb_core_events.proofs.RightsOfBegin.{begun_right}
use Rattle.mb_core_events.proofs.events.Core.begin.Goals as goal

pub invariant_of-result : goal.invariant_of-result
invariant_of-result g c = begun_right g.D.Disk.told g.D.Disk.faults c.args.fs c.args.disk c.args.config c.in_ok-fields.fields c.in_ok-fields.ensures.begun c.in_ok-fields.ensures.may

pub returns-clause-right : goal.returns-clause-right
returns-clause-right g c = invariant_of-result g c
