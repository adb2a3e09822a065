use Rattle.std.proofs.Common.{◌≡◌, ◌≤◌, ◌+◌}
use Rattle.mb_kinds.specs.Image.{Image}
use Rattle.mb_tree.specs.Volume.{last_inode}
use Rattle.mb_check.specs.Directories.{KeepsAll}
use Rattle.mb_check.proofs.Figures.{nodes_below}
use Rattle.mb_check.proofs.scans.nodes.Given as goal

-- the inodes in use so far
abbrev pub invariant-loop-before : goal.invariant-loop-before
invariant-loop-before l = record {
  few : l.count ≤ l.before;
  nodes : (image : Image) → KeepsAll image.at l.table → l.last ≡ last_inode image.at → l.count ≡ nodes_below image (l.before + 1);
}
