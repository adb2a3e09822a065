use Rattle.std.proofs.Common.{ℕ, List, ◌≡◌, ◌≤◌, ◌+◌, ◌-◌, ◌*◌, Ok, IfSome, length}
use Rattle.mb_rules.specs.Items.{each_from, walked}
use Rattle.mb_rules.specs.Files.{inode_items}
use Rattle.mb_check_files.specs.InodeTables.{KeepsInodes}
use Rattle.mb_check_files.specs.Passes.{Stands, AreBounds, count_met}
use Rattle.mb_check_files.proofs.inodes.block_inodes.Given as goal

-- the inodes so far were gone through and kept
abbrev pub invariant-loop-place : goal.invariant-loop-place
invariant-loop-place g l = record {
  told : g.D.Disk.told l.disk ≡ g.D.Disk.told l.fn.disk;
  later : g.D.Disk.faults l.fn.disk ≤ g.D.Disk.faults l.disk;
  walk : IfSome (g.D.Disk.told l.fn.disk) (λ image. (list : List ℕ) → l.block ≡ image.at l.number → AreBounds image.at l.bounds → Stands l.fn.met list
      → (after : List ℕ) × (walked list (each_from (inode_items image.at) (8 * (l.number - 2) + 1) l.place) ≡ Ok after) × Stands l.met after);
  kept : IfSome (g.D.Disk.told l.fn.disk) (λ image. l.block ≡ image.at l.number → KeepsInodes image.at l.fn.table (8 * (l.number - 2)) → KeepsInodes image.at l.table (8 * (l.number - 2) + l.place));
  few : length l.table.parts.addresses.items ≤ count_met l.met;
}
