use Rattle.std.proofs.Common.{◌≡◌, ◌+◌, ◌≤◌, drop, length}
use Rattle.mb_copies.specs.Reads.{stored}
use Rattle.mb_copies.proofs.copies.Copies.take.Given as goal

abbrev pub invariant-loop-at : goal.invariant-loop-at
invariant-loop-at l = record {
  copies : stored l.self.items (drop l.at l.reads) ≡ stored l.fn.self.items l.fn.reads;
  room : l.fn.self.spare ≤ l.self.spare + l.at;
  within : l.at-end ≡ length l.fn.reads;
  count : length l.reads ≡ length l.fn.reads;
}
