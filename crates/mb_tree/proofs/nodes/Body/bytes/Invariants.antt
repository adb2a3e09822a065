use Rattle.std.proofs.Common.{◌≡◌, ◌≤◌, ◌+◌, ◌-◌, ◌++◌, vec_len}
use Rattle.mb_tree.specs.Inodes.{bytes_from}
use Rattle.mb_tree.proofs.nodes.Body.bytes.Given as goal

abbrev pub invariant-turns : goal.invariant-turns
invariant-turns l = record {
  bound : l.done ≤ l.count;
  many : vec_len l.bytes ≡ l.done;
  so_far : l.bytes.items ++ bytes_from l.self (l.index + l.done) (l.count - l.done) ≡ bytes_from l.self l.index l.count;
}

abbrev pub decreases-turns : goal.decreases-turns
decreases-turns l = l.count - l.done
