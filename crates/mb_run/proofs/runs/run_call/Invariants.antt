use Rattle.std.proofs.Common.{◌≡◌, length}
use Rattle.mb_run.specs.Orders.{IsWhole}
use Rattle.mb_run.proofs.Everybody.{work_at}
use Rattle.mb_run.proofs.runs.run_call.Given as goal

abbrev pub invariant-turns : goal.invariant-turns
invariant-turns g l = record {
  whole : IsWhole l.calls (g.H.Hook.test l.fn.hook) 0 (g.C.EventCore.sight l.fn.core) (g.C.EventCore.sight l.core) l.fn.runners l.runners;
  size : length l.runners ≡ length l.fn.runners;
  origin : g.C.EventCore.origin l.core ≡ g.C.EventCore.origin l.fn.core;
  test : g.H.Hook.test l.hook ≡ g.H.Hook.test l.fn.hook;
}

abbrev pub decreases-turns : goal.decreases-turns
decreases-turns g l = work_at (g.C.EventCore.sight l.core) l.caller l.runners
