use Rattle.mb_core_events.proofs.Knowing.{few_logged}
use Rattle.mb_core_events.proofs.events.Core.logged.Goals as goal

pub logged-requires : goal.logged-requires
logged-requires g c = few_logged g.D.Disk.told g.D.Disk.faults c.self.inside.fields c.self.invariant
