use Rattle.std.proofs.Common.{◌≡◌, ◌≤◌}
use Rattle.mb_run.specs.Sights.{IsOrderlyInSight}
use Rattle.mb_run.proofs.settles.flush_all.Given as goal

abbrev pub invariant-pages : goal.invariant-pages
invariant-pages g l = record {
  rest : g.C.EventCore.sight l.core ≡ record (g.C.EventCore.sight l.fn.core) { sealed = (g.C.EventCore.sight l.core).sealed };
  later : g.C.EventCore.faults l.fn.core ≤ g.C.EventCore.faults l.core;
  origin : g.C.EventCore.origin l.core ≡ g.C.EventCore.origin l.fn.core;
  right : IsOrderlyInSight (g.C.EventCore.sight l.core);
}

abbrev pub decreases-pages : goal.decreases-pages
decreases-pages g l = (g.C.EventCore.sight l.core).sealed
