use Rattle.std.proofs.Common.{◌≡◌, length}
use Rattle.mb_gen.specs.Calls.{calls_drawn}
use Rattle.mb_gen.proofs.calls.calls_drawn.Given as goal

abbrev pub invariant-calls : goal.invariant-calls
invariant-calls g l = record {
  drawn : (l.calls.items, l.draws) ≡ calls_drawn g.G.NextWord.step l._index l.initial.draws;
  size : length l.calls.items ≡ l._index;
}
