use Rattle.mb_kinds.specs.Changed.{changed}
use Rattle.mb_calls.specs.Following.{IsGoingFor}
use Rattle.mb_call_pairs.proofs.benches.ready.Given as goal

abbrev pub invariant-loop : goal.invariant-loop
invariant-loop l = IsGoingFor (changed l.view.blocks) l.seats l.caller l.call l.performing
