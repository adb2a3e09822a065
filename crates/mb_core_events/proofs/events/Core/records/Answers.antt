use Rattle.std.proofs.Common.{◌≤◌, List, length, subst, sym}
use Rattle.mb_kinds.specs.declared.faults.FaultRecord.{FaultRecord}
use Rattle.mb_core_events.proofs.Knowing.{few_records}
use Rattle.mb_core_events.proofs.events.Core.records.Goals as goal

pub returns-clause-few : goal.returns-clause-few
returns-clause-few g c = subst (λ (records : List FaultRecord). length records ≤ 256) (sym c.records.ensures) (few_records g.D.Disk.told g.D.Disk.faults c.self.inside.fields c.self.invariant)
