use Rattle.std.proofs.Common.{◌≡◌, ◌≤◌, ◌+◌, drop}
use Rattle.mb_jobs.specs.Lists.{calls_of}
use Rattle.mb_gen.proofs.ordinals.calls_of.Given as goal

abbrev pub invariant-calls : goal.invariant-calls
invariant-calls l = record {
  few : l.count ≤ l.call-index;
  rest : l.count + calls_of (drop l.call-index l.calls) l.caller ≡ calls_of l.calls l.caller;
}
