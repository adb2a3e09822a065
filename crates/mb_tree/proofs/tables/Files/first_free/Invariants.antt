use Rattle.std.proofs.Common.{◌≡◌, ◌≤◌, ◌-◌, not}
use Rattle.std.specs.FinMap as fin
use Rattle.mb_tree.specs.Counting.{first_from}
use Rattle.mb_tree.proofs.tables.Files.first_free.Given as goal

abbrev pub invariant-turns : goal.invariant-turns
invariant-turns l = record {
  bound : l.place ≤ 17;
  so_far : first_from (λ place. not (fin.contains_key l.self place)) l.place (17 - l.place) ≡ first_from (λ place. not (fin.contains_key l.self place)) 0 17;
}

abbrev pub decreases-turns : goal.decreases-turns
decreases-turns l = 17 - l.place
