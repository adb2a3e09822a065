-- So many of the job's calls were passed, and the caller's among them are answered.
use Rattle.std.proofs.Common.{◌≡◌, take}
use Rattle.mb_run.specs.Served.{calls_of}
use Rattle.mb_volume.specs.Passing.{IsLater, part_in}
use Rattle.mb_threads.specs.Workers.{HasMadeCalls}
use Rattle.mb_threads.proofs.worker.MakeCallsErrandVolumeWorker.run.Given as goal

abbrev pub invariant-loop-made : goal.invariant-loop-made
invariant-loop-made g l = record {
  later : IsLater l.shared.table l.fn.own.pass l.pass;
  made : HasMadeCalls (calls_of (take l.made-index l.calls) l.fn.own.pass.caller) (g.H.Hook.test l.fn.own.hook) (part_in l.pass);
  caller : l.caller ≡ l.fn.own.pass.caller;
  test : g.H.Hook.test l.hook ≡ g.H.Hook.test l.fn.own.hook;
  calls : l.calls ≡ l.fn.own.calls.now;
}
