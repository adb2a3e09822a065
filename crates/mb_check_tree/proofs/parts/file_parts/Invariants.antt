use Rattle.std.proofs.Common.{ℕ, List, ◌≡◌, ◌≤◌, ◌<◌, Option, IfSome}
use Rattle.mb_layout.specs.Inode.{address_in}
use Rattle.mb_tree.specs.Blocks.{bytes_at}
use Rattle.mb_check_tree.specs.Filling.{HasBelow}
use Rattle.mb_check_tree.proofs.parts.file_parts.Given as goal

-- the parts at the direct addresses so far stand in the map
abbrev pub invariant-loop-place : goal.invariant-loop-place
invariant-loop-place g l = record {
  told : g.D.Disk.told l.disk ≡ g.D.Disk.told l.fn.disk;
  later : g.D.Disk.faults l.fn.disk ≤ g.D.Disk.faults l.disk;
  fills : IfSome (g.D.Disk.told l.fn.disk) (λ image. (value : ℕ → Option (List ℕ)) → ((k : ℕ) → k < 10 → value k ≡ bytes_at image.at (address_in l.inode k)) → HasBelow l.parts l.place value);
}
