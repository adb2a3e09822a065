use Rattle.std.proofs.Common.{◌≡◌, ◌≤◌, ◌-◌}
use Rattle.std.specs.FinMap as fin
use Rattle.mb_tree.specs.Counting.{sum_below}
use Rattle.mb_tree.specs.Sessions.{held_by}
use Rattle.mb_tree.proofs.tables.Files.held.Given as goal

abbrev pub invariant-turns : goal.invariant-turns
invariant-turns l = record {
  bound : l.place ≤ 17;
  few : l.count ≤ l.place;
  so_far : l.count ≡ sum_below (λ place. held_by l.ino (fin.get l.self place)) l.place;
}

abbrev pub decreases-turns : goal.decreases-turns
decreases-turns l = 17 - l.place
