use Rattle.std.proofs.Common.{◌≡◌, ◌≤◌, ◌-◌}
use Rattle.std.specs.FinMap as fin
use Rattle.mb_tree.specs.Counting.{first_from}
use Rattle.mb_tree.specs.Sessions.{is_at_place}
use Rattle.mb_tree.proofs.tables.Fds.has_place.Given as goal

abbrev pub invariant-turns : goal.invariant-turns
invariant-turns l = record {
  bound : l.fd ≤ 20;
  so_far : first_from (λ fd. is_at_place l.place (fin.get l.self fd)) l.fd (20 - l.fd) ≡ first_from (λ fd. is_at_place l.place (fin.get l.self fd)) 3 17;
}

abbrev pub decreases-turns : goal.decreases-turns
decreases-turns l = 20 - l.fd
