use Rattle.mb_bench.specs.Gathered.{shown_of}
use Rattle.mb_calls.specs.Following.{IsGoingFor}
use Rattle.mb_bench.proofs.benches.performed.Given as goal

abbrev pub invariant-loop-asks : goal.invariant-loop-asks
invariant-loop-asks l = IsGoingFor (shown_of l.device) l.seats 0 l.call l.performing
