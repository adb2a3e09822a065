use Rattle.std.proofs.Common.{◌≡◌}
use Rattle.mb_run.specs.Pages.{IsUnderWay}
use Rattle.mb_run.specs.Served.{IsFloorOf, work}
use Rattle.mb_run.specs.Tallies.{IsTallied}
use Rattle.mb_run.proofs.Going.{IsTurning}
use Rattle.mb_run.proofs.runs.run_holder.Given as goal

abbrev pub invariant-turns : goal.invariant-turns
invariant-turns g l = record {
  turning : IsTurning l.calls (g.H.Hook.test l.fn.hook) (g.C.EventCore.sight l.fn.core) (g.C.EventCore.sight l.core) l.fn.runner l.runner l.call;
  mine : IsFloorOf l.fn.runner.crossings.caller (g.C.EventCore.sight l.core).floor;
  tallied : IsTallied (g.H.Hook.test l.fn.hook) (g.C.EventCore.sight l.fn.core) l.fn.runner l.fn.runner.at → IsTallied (g.H.Hook.test l.fn.hook) (g.C.EventCore.sight l.core) l.runner l.runner.at;
  going : IsUnderWay l.runner.pages l.runner.crossings.caller l.call l.way;
  origin : g.C.EventCore.origin l.core ≡ g.C.EventCore.origin l.fn.core;
  test : g.H.Hook.test l.hook ≡ g.H.Hook.test l.fn.hook;
}

abbrev pub decreases-turns : goal.decreases-turns
decreases-turns g l = work (g.C.EventCore.sight l.core) l.runner.crossings.caller l.runner
