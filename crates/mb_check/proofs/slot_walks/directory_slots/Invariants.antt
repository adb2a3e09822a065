use Rattle.std.proofs.Common.{ℕ, List, ◌≡◌, ◌≤◌, Ok, IfSome}
use Rattle.mb_tree.specs.Volume.{last_inode}
use Rattle.mb_rules.specs.Items.{each_from, walked}
use Rattle.mb_rules.specs.Slots.{slot_items}
use Rattle.mb_check.specs.Directories.{KeepsAll, slots_before}
use Rattle.mb_check.specs.SlotTests.{KnowsNames}
use Rattle.mb_check.specs.Tallies.{KeepsCounts}
use Rattle.mb_check.proofs.slot_walks.directory_slots.Given as goal

-- the slots of the parts so far pass, their names are known, and they are counted
abbrev pub invariant-loop-part : goal.invariant-loop-part
invariant-loop-part g l = record {
  told : g.D.Disk.told l.disk ≡ g.D.Disk.told l.fn.disk;
  later : g.D.Disk.faults l.fn.disk ≤ g.D.Disk.faults l.disk;
  walk : IfSome (g.D.Disk.told l.fn.disk) (λ image. (met : List ℕ) → KeepsAll image.at l.table → 1 ≤ l.dir → l.dir ≤ last_inode image.at
      → walked met (each_from (slot_items image.at l.dir) 0 (slots_before l.kept.size l.part)) ≡ Ok met);
  names : IfSome (g.D.Disk.told l.fn.disk) (λ image. KeepsAll image.at l.table → 1 ≤ l.dir → l.dir ≤ last_inode image.at → KnowsNames image.at l.dir (slots_before l.kept.size l.part) l.names);
  counts : IfSome (g.D.Disk.told l.fn.disk) (λ image. KeepsAll image.at l.table → 1 ≤ l.dir → l.dir ≤ last_inode image.at → KeepsCounts image.at l.dir 0 l.fn.counts
      → KeepsCounts image.at l.dir (slots_before l.kept.size l.part) l.counts);
}
