use Rattle.std.proofs.Common.{◌≡◌, ◌≤◌, true, IfSome}
use Rattle.mb_tree.specs.Volume.{last_inode}
use Rattle.mb_rules.specs.Parents.{is_reached}
use Rattle.mb_check.specs.Directories.{KeepsAll, slots_before}
use Rattle.mb_check.specs.Reaching.{Advances, Reaching}
use Rattle.mb_check.proofs.reaching.directory_targets.Given as goal

-- all to which the slots of the parts so far lead is reached
abbrev pub invariant-loop-part : goal.invariant-loop-part
invariant-loop-part g l = record {
  told : g.D.Disk.told l.disk ≡ g.D.Disk.told l.fn.disk;
  later : g.D.Disk.faults l.fn.disk ≤ g.D.Disk.faults l.disk;
  reach : IfSome (g.D.Disk.told l.fn.disk) (λ image. KeepsAll image.at l.table → 2 ≤ last_inode image.at → l.dir ≤ last_inode image.at → is_reached image.at (last_inode image.at) l.dir ≡ true
      → Reaching image.at l.fn.reach → Advances image.at l.dir (slots_before l.kept.size l.part) l.fn.reach l.reach);
}
