use Rattle.std.proofs.Common.{◌≡◌, ◌+◌}
use Rattle.mb_kinds.specs.Image.{Image}
use Rattle.mb_tree.specs.Volume.{last_inode}
use Rattle.mb_check.specs.Directories.{KeepsAll}
use Rattle.mb_check.proofs.Figures.{nameless_below}
use Rattle.mb_check.proofs.scans.nameless.Given as goal

-- the files without a name so far
abbrev pub invariant-loop-before : goal.invariant-loop-before
invariant-loop-before l = (image : Image) → KeepsAll image.at l.table → l.last ≡ last_inode image.at → l.inos ≡ nameless_below image (l.before + 1)
