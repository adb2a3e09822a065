use Rattle.mb_core_events.proofs.Knowing.{few_logged}
use Rattle.mb_core_events.proofs.events.Core.phase.Goals as goal

pub phase-requires : goal.phase-requires
phase-requires g c = few_logged g.D.Disk.told g.D.Disk.faults c.self.inside.fields c.self.invariant
