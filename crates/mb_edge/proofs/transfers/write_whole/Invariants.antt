use Rattle.std.proofs.Common.{◌-◌, ◌≤◌, length, take}
use Rattle.std.specs.Io.KnownBytes.{Appends}
use Rattle.mb_edge.proofs.transfers.write_whole.Given as goal

abbrev pub invariant-turns : goal.invariant-turns
invariant-turns g l = record {
  bound : l.at ≤ length l.text;
  so_far : Appends (g.K.Sink.taken l.fn.sink) (g.K.Sink.taken l.sink) (take l.at l.text);
  later : g.K.Sink.faults l.fn.sink ≤ g.K.Sink.faults l.sink;
}

abbrev pub decreases-turns : goal.decreases-turns
decreases-turns g l = length l.text - l.at
