use Rattle.std.proofs.Common.{◌≡◌, ℕ, drop, length, nat_eq}
use Rattle.std.specs.List.{IsDistinct}
use Rattle.std.specs.Map.{keys_of}
use Rattle.mb_cache.specs.Kept.{shown}
use Rattle.mb_copies.specs.Reads.{renewed}
use Rattle.mb_copies.proofs.copies.Copies.renew.Given as goal

abbrev pub invariant-loop-at : goal.invariant-loop-at
invariant-loop-at l = record {
  copies : (block : ℕ) → renewed (drop l.at l.changes) (shown l.self.items) block ≡ renewed l.changes (shown l.fn.self.items) block;
  once : IsDistinct nat_eq (keys_of (drop l.at l.changes));
  within : l.at-end ≡ length l.changes;
}
