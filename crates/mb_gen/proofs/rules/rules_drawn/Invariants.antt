use Rattle.std.proofs.Common.{◌≡◌}
use Rattle.mb_gen.specs.Faults.{rules_drawn}
use Rattle.mb_gen.proofs.rules.rules_drawn.Given as goal

abbrev pub invariant-rules : goal.invariant-rules
invariant-rules g l = (l.rules.items, l.draws) ≡ rules_drawn g.G.NextWord.step l.calls l.bound l._index l.initial.draws
