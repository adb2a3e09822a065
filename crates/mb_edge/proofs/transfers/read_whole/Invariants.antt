use Rattle.std.proofs.Common.{◌-◌, ◌≤◌, vec_len}
use Rattle.std.specs.Io.KnownBytes.{Consumes}
use Rattle.mb_edge.proofs.transfers.read_whole.Given as goal

abbrev pub invariant-turns : goal.invariant-turns
invariant-turns g l = record {
  bound : vec_len l.bytes ≤ l.most;
  so_far : Consumes (g.S.Source.left l.fn.source) (g.S.Source.left l.source) l.bytes.items;
  later : g.S.Source.faults l.fn.source ≤ g.S.Source.faults l.source;
}

abbrev pub decreases-turns : goal.decreases-turns
decreases-turns g l = l.most - vec_len l.bytes
