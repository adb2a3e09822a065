use Rattle.std.proofs.Common.{◌≡◌, ◌≢◌, ◌⊎◌}
use Rattle.mb_run.specs.Served.{work}
use Rattle.mb_run.specs.declared.runner.At.TheVariants as at
use Rattle.mb_run.proofs.Calmly.{IsCalmSoFar}
use Rattle.mb_run.proofs.Going.{IsTurning}
use Rattle.mb_run.proofs.orders.step_to_finish.Given as goal

abbrev pub invariant-steps : goal.invariant-steps
invariant-steps g l = record {
  turning : IsTurning l.calls (g.H.Hook.test l.fn.hook) (g.C.EventCore.sight l.fn.core) (g.C.EventCore.sight l.core) l.fn.runner l.runner l.call;
  begun : (l.runner.at ≡ at.Outside) ⊎ (((g.C.EventCore.sight l.core).seats l.fn.runner.crossings.caller).begun ≢ 0);
  calm : IsCalmSoFar (g.H.Hook.test l.fn.hook) (g.C.EventCore.sight l.fn.core) (g.C.EventCore.sight l.core) l.fn.runner l.runner;
  origin : g.C.EventCore.origin l.core ≡ g.C.EventCore.origin l.fn.core;
  test : g.H.Hook.test l.hook ≡ g.H.Hook.test l.fn.hook;
}

abbrev pub decreases-steps : goal.decreases-steps
decreases-steps g l = work (g.C.EventCore.sight l.core) l.runner.crossings.caller l.runner
