use Rattle.std.proofs.Common.{◌≡◌, ◌++◌}
use Rattle.mb_tree.specs.Cost.{first_parts}
use Rattle.mb_tree.proofs.costs.first_parts.Given as goal

abbrev pub invariant-turns : goal.invariant-turns
invariant-turns l = l.parts.items ++ first_parts l.left ≡ first_parts l.count

abbrev pub decreases-turns : goal.decreases-turns
decreases-turns l = l.left
