use Rattle.std.proofs.Common.{ℕ, List, ◌≡◌, ◌≤◌, ◌<◌, ◌+◌, ◌*◌, Option, IfSome}
use Rattle.mb_tree.specs.Blocks.{bytes_at}
use Rattle.mb_check_files.specs.Indexes.{under_double}
use Rattle.mb_check_tree.specs.Filling.{HasBelow}
use Rattle.mb_check_tree.proofs.parts.double.Given as goal

-- what the addresses so far lead to stands in the map
abbrev pub invariant-loop-place : goal.invariant-loop-place
invariant-loop-place g l = record {
  told : g.D.Disk.told l.disk ≡ g.D.Disk.told l.fn.disk;
  later : g.D.Disk.faults l.fn.disk ≤ g.D.Disk.faults l.disk;
  fills : IfSome (g.D.Disk.told l.fn.disk) (λ image. (value : ℕ → Option (List ℕ)) → HasBelow l.fn.parts l.number value
      → ((k : ℕ) → k < 16384 → value (l.number + k) ≡ bytes_at image.at (under_double image.at l.address k)) → HasBelow l.parts (l.number + 128 * l.place) value);
}
