use Rattle.std.proofs.Common.{◌≡◌, ◌≤◌, ◌+◌, length}
use Rattle.std.specs.FinSet as set
use Rattle.mb_tree.specs.Cost.{touched}
use Rattle.mb_tree.proofs.costs.touched.Given as goal

abbrev pub invariant-turns : goal.invariant-turns
invariant-turns l = record {
  few : l.count + length l.rest ≤ length l.parts;
  so_far : l.count + set.len (touched l.low l.high l.size l.rest) ≡ set.len (touched l.low l.high l.size l.parts);
}

abbrev pub decreases-turns : goal.decreases-turns
decreases-turns l = length l.rest
