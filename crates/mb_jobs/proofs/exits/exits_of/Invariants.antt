use Rattle.std.proofs.Common.{◌≡◌, ◌≤◌, ◌++◌, drop, length}
use Rattle.mb_jobs.specs.Lists.{exits_from}
use Rattle.mb_jobs.proofs.exits.exits_of.Given as goal

abbrev pub invariant-places : goal.invariant-places
invariant-places l = record {
  rest : l.exits.items ++ exits_from l.calls l.place (drop l.place l.callers) ≡ exits_from l.calls 0 l.callers;
  few : length l.exits.items ≤ l.place;
}
