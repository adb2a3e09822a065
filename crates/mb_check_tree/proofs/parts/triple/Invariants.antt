use Rattle.std.proofs.Common.{ℕ, List, ◌≡◌, ◌≤◌, ◌<◌, ◌+◌, ◌*◌, Option, IfSome}
use Rattle.mb_tree.specs.Blocks.{bytes_at}
use Rattle.mb_check_files.specs.Indexes.{under_triple}
use Rattle.mb_check_tree.specs.Filling.{HasBelow}
use Rattle.mb_check_tree.proofs.parts.triple.Given as goal

-- what the addresses so far lead to stands in the map
abbrev pub invariant-loop-place : goal.invariant-loop-place
invariant-loop-place g l = record {
  told : g.D.Disk.told l.disk ≡ g.D.Disk.told l.fn.disk;
  later : g.D.Disk.faults l.fn.disk ≤ g.D.Disk.faults l.disk;
  fills : IfSome (g.D.Disk.told l.fn.disk) (λ image. (value : ℕ → Option (List ℕ)) → HasBelow l.fn.parts l.number value
      → ((k : ℕ) → k < 2097152 → value (l.number + k) ≡ bytes_at image.at (under_triple image.at l.address k)) → HasBelow l.parts (l.number + 16384 * l.place) value);
}
