use Rattle.std.proofs.Common.{◌≡◌, ◌≤◌, ◌+◌, IfSome}
use Rattle.mb_tree.specs.Volume.{last_inode}
use Rattle.mb_check.specs.Directories.{KeepsAll}
use Rattle.mb_check_tree.specs.Filling.{HasBelow}
use Rattle.mb_check_tree.specs.Sweeping.{swept_at}
use Rattle.mb_check_tree.proofs.nodes.swept_nodes.Given as goal

-- the inodes so far
abbrev pub invariant-loop-before : goal.invariant-loop-before
invariant-loop-before g l = record {
  told : g.D.Disk.told l.disk ≡ g.D.Disk.told l.fn.disk;
  later : g.D.Disk.faults l.fn.disk ≤ g.D.Disk.faults l.disk;
  kept : IfSome (g.D.Disk.told l.fn.disk) (λ image. KeepsAll image.at l.table → l.last ≡ last_inode image.at → HasBelow l.nodes (l.before + 1) (swept_at image.at));
}
