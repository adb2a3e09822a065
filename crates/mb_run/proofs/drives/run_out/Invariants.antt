use Rattle.std.proofs.Common.{◌≡◌, length}
use Rattle.mb_run.specs.Orders.{AreCounted, AreRunOut, IsWhole}
use Rattle.mb_run.proofs.drives.run_out.Given as goal

abbrev pub invariant-loop-made : goal.invariant-loop-made
invariant-loop-made g l = record {
  whole : IsWhole l.calls (g.H.Hook.test l.fn.hook) 0 (g.C.EventCore.sight l.fn.core) (g.C.EventCore.sight l.core) l.fn.runners l.runners;
  out : AreRunOut l.calls l.runners l.made-index;
  counted : AreCounted l.calls l.passed l.made-index;
  eight : length l.passed ≡ 8;
  size : length l.runners ≡ length l.fn.runners;
  origin : g.C.EventCore.origin l.core ≡ g.C.EventCore.origin l.fn.core;
  test : g.H.Hook.test l.hook ≡ g.H.Hook.test l.fn.hook;
}
