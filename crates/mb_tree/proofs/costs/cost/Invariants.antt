use Rattle.std.proofs.Common.{◌≡◌, ◌≤◌, ◌+◌, ◌*◌, ◌^◌, ◌-◌}
use Rattle.std.specs.FinMap as fin
use Rattle.mb_tree.specs.Counting.{sum_below}
use Rattle.mb_tree.specs.Cost.{cost_at}
use Rattle.mb_tree.proofs.costs.cost.Given as goal

abbrev pub invariant-turns : goal.invariant-turns
invariant-turns l = record {
  bound : l.ino ≤ l.last + 1;
  few : l.total ≤ 2 ^ 67 * l.ino;
  so_far : l.total ≡ sum_below (λ ino. cost_at (fin.get l.nodes ino)) l.ino;
}

abbrev pub decreases-turns : goal.decreases-turns
decreases-turns l = l.last + 1 - l.ino
