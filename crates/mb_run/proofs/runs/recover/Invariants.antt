use Rattle.std.proofs.Common.{◌≡◌}
use Rattle.mb_run.specs.Served.{steps_to_go}
use Rattle.mb_run.specs.Tallies.{IsTallied}
use Rattle.mb_run.proofs.Going.{IsRolling}
use Rattle.mb_run.proofs.Lengthening.{RanSince}
use Rattle.mb_run.proofs.runs.recover.Given as goal

abbrev pub invariant-steps : goal.invariant-steps
invariant-steps g l = record {
  rolling : IsRolling l.calls (g.H.Hook.test l.fn.hook) (g.C.EventCore.sight l.fn.core) (g.C.EventCore.sight l.core) l.fn.runner l.runner l.call;
  tallied : IsTallied (g.H.Hook.test l.fn.hook) (g.C.EventCore.sight l.fn.core) l.fn.runner l.fn.runner.at → IsTallied (g.H.Hook.test l.fn.hook) (g.C.EventCore.sight l.core) l.runner l.runner.at;
  since : RanSince (g.C.EventCore.sight l.fn.core) (g.C.EventCore.sight l.core);
  origin : g.C.EventCore.origin l.core ≡ g.C.EventCore.origin l.fn.core;
  test : g.H.Hook.test l.hook ≡ g.H.Hook.test l.fn.hook;
}

abbrev pub decreases-steps : goal.decreases-steps
decreases-steps g l = steps_to_go (g.C.EventCore.sight l.core)
