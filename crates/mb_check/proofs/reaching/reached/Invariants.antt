use Rattle.std.proofs.Common.{◌≡◌, ◌≤◌, IfSome}
use Rattle.mb_tree.specs.Volume.{last_inode}
use Rattle.mb_check.specs.Directories.{KeepsAll}
use Rattle.mb_check.proofs.Reaches.{HasRead}
use Rattle.mb_check.proofs.reaching.reached.Given as goal

-- the first of the list were read
abbrev pub invariant-loop-place : goal.invariant-loop-place
invariant-loop-place g l = record {
  told : g.D.Disk.told l.disk ≡ g.D.Disk.told l.fn.disk;
  later : g.D.Disk.faults l.fn.disk ≤ g.D.Disk.faults l.disk;
  read : IfSome (g.D.Disk.told l.fn.disk) (λ image. KeepsAll image.at l.table → l.last ≡ last_inode image.at → 2 ≤ l.last → HasRead image.at l.place l.reach);
}
