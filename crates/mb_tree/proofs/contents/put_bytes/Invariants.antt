use Rattle.std.proofs.Common.{◌≡◌, ◌+◌, drop}
use Rattle.mb_tree.specs.Effect.{put_bytes}
use Rattle.mb_tree.proofs.contents.put_bytes.Given as goal

abbrev pub invariant-loop-byte : goal.invariant-loop-byte
invariant-loop-byte l = record {
  place : l.index ≡ l.offset + l.byte-index;
  so_far : put_bytes l.parts l.index (drop l.byte-index l.bytes) ≡ put_bytes l.fn.parts l.offset l.bytes;
}
