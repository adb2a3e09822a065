use Rattle.std.proofs.Common.{◌+◌, ◌-◌, ◌*◌, ◌≤◌, ◌≡◌}
use Rattle.mb_alloc.proofs.Scanning.{HasScanned}
use Rattle.mb_alloc.proofs.numbers.scan.Given as goal

abbrev pub invariant-numbers : goal.invariant-numbers
invariant-numbers g l = record {
  scanned : HasScanned (g.V.View.shown l.view) l.changes l.size l.list l.count l.ino;
  within : l.ino ≤ l.end;
  last : l.end ≡ 8 * (l.size - 2) + 1;
  past : 3 ≤ l.ino;
}

abbrev pub decreases-numbers : goal.decreases-numbers
decreases-numbers g l = l.end - l.ino
