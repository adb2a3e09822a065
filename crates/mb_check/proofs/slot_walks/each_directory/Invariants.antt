use Rattle.std.proofs.Common.{ℕ, List, ◌≡◌, ◌≤◌, ◌+◌, Ok, IfSome}
use Rattle.mb_tree.specs.Volume.{last_inode}
use Rattle.mb_rules.specs.Items.{each_from, walked}
use Rattle.mb_rules.specs.Slots.{directory_items}
use Rattle.mb_check.specs.Directories.{KeepsAll}
use Rattle.mb_check.specs.Tallies.{KeepsCounts}
use Rattle.mb_check.proofs.slot_walks.each_directory.Given as goal

-- the directories so far pass, and their slots are counted
abbrev pub invariant-loop-before : goal.invariant-loop-before
invariant-loop-before g l = record {
  told : g.D.Disk.told l.disk ≡ g.D.Disk.told l.fn.disk;
  later : g.D.Disk.faults l.fn.disk ≤ g.D.Disk.faults l.disk;
  walk : IfSome (g.D.Disk.told l.fn.disk) (λ image. (met : List ℕ) → KeepsAll image.at l.table → l.last ≡ last_inode image.at → walked met (each_from (directory_items image.at) 1 l.before) ≡ Ok met);
  counts : IfSome (g.D.Disk.told l.fn.disk) (λ image. KeepsAll image.at l.table → l.last ≡ last_inode image.at → KeepsCounts image.at 1 0 l.fn.counts → KeepsCounts image.at (l.before + 1) 0 l.counts);
}
