use Rattle.std.proofs.Common.{◌≡◌, length}
use Rattle.mb_run.specs.Served.{IsAfter}
use Rattle.mb_run.specs.Timely.{IsTimely}
use Rattle.mb_run.specs.Tallies.{AreRested}
use Rattle.mb_run.proofs.runs.run_in_order.Given as goal

abbrev pub invariant-loop-made : goal.invariant-loop-made
invariant-loop-made g l = record {
  after : IsAfter l.calls (g.H.Hook.test l.fn.hook) (g.C.EventCore.sight l.core) l.runners l.made-index;
  rested : AreRested (g.H.Hook.test l.fn.hook) (g.C.EventCore.sight l.fn.core) l.fn.runners → AreRested (g.H.Hook.test l.fn.hook) (g.C.EventCore.sight l.core) l.runners;
  config : (g.C.EventCore.sight l.core).config ≡ (g.C.EventCore.sight l.fn.core).config;
  seals : IsTimely 0 (g.C.EventCore.sight l.fn.core) (g.C.EventCore.sight l.core);
  size : length l.runners ≡ length l.fn.runners;
  origin : g.C.EventCore.origin l.core ≡ g.C.EventCore.origin l.fn.core;
  test : g.H.Hook.test l.hook ≡ g.H.Hook.test l.fn.hook;
}
