use Rattle.std.proofs.Common.{◌-◌, ◌≡◌, ◌+◌, ◌≤◌, ℕ}
use Rattle.std.specs.FinMap as fin
use Rattle.mb_iface.specs.OpenCounts.{count_of}
use Rattle.mb_tree.specs.Counting.{sum_below}
use Rattle.mb_tree.specs.Sessions.{held_by}
use Rattle.mb_session.proofs.counting.count_files.Given as goal

abbrev pub invariant-turns : goal.invariant-turns
invariant-turns l = record {
  bound : l.place ≤ 17;
  few : (ino : ℕ) → count_of l.opens ino ≤ 65535 + l.place;
  so_far : (ino : ℕ) → count_of l.opens ino ≡ count_of l.fn.opens ino + sum_below (λ place. held_by ino (fin.get l.seat.files place)) l.place;
}

abbrev pub decreases-turns : goal.decreases-turns
decreases-turns l = 17 - l.place
