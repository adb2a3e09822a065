use Rattle.std.proofs.Common.{◌≡◌, ◌≤◌}
use Rattle.mb_run.specs.Lengths.{GoesForward}
use Rattle.mb_run.specs.Settling.{KeepsHistory}
use Rattle.mb_run.specs.Sights.{IsOrderlyInSight, undue_in}
use Rattle.mb_run.proofs.settles.recover_calmly.Given as goal

abbrev pub invariant-steps : goal.invariant-steps
invariant-steps g l = record {
  keeps : KeepsHistory (g.C.EventCore.sight l.fn.core) (g.C.EventCore.sight l.core);
  forward : GoesForward (g.C.EventCore.sight l.fn.core) (g.C.EventCore.sight l.core);
  seals : undue_in (g.C.EventCore.sight l.core) ≤ undue_in (g.C.EventCore.sight l.fn.core);
  later : g.C.EventCore.faults l.fn.core ≤ g.C.EventCore.faults l.core;
  origin : g.C.EventCore.origin l.core ≡ g.C.EventCore.origin l.fn.core;
  right : IsOrderlyInSight (g.C.EventCore.sight l.core);
}

abbrev pub decreases-steps : goal.decreases-steps
decreases-steps g l = (g.C.EventCore.sight l.core).left
