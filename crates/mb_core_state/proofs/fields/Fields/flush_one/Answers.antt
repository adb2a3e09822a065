use Rattle.mb_core_state.proofs.Held.{flushes_held}
use Rattle.mb_core_state.proofs.fields.Fields.flush_one.Goals as goal

pub returns-clause-flushes : goal.returns-clause-flushes
returns-clause-flushes g c = flushes_held g.D.Disk.told g.D.Disk.faults _ c.args.self.now c.flush_one.new.self c.flush_one.result c.self.view_is c.flush_one.ensures.flushes
