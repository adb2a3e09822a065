use Rattle.std.proofs.Common.{ap, sym, ◌∙◌, arith}
use Rattle.mb_tree.specs.Inodes.{is_directory}
use Rattle.mb_tree.specs.Volume.{last_inode}
use Rattle.mb_check.proofs.LateParts.{root_fails, root_passes}
use Rattle.mb_check.proofs.scans.root.Goals as goal

pub returns-then-not-is_directory-clause-walk : goal.returns-then-not-is_directory-clause-walk
returns-then-not-is_directory-clause-walk c blocks met keeps enough =
    let inode = c.kept_of.ensures.keeps blocks (last_inode blocks) keeps.inodes (omega arith) enough in
    root_fails blocks met (ap is_directory (sym inode.mode) ∙ sym c.is_directory.ensures ∙ c.if-not-is_directory.true)

pub returns-clause-walk : goal.returns-clause-walk
returns-clause-walk c blocks met keeps enough =
    let inode = c.kept_of.ensures.keeps blocks (last_inode blocks) keeps.inodes (omega arith) enough in
    root_passes blocks met (ap is_directory (sym inode.mode) ∙ sym c.is_directory.ensures ∙ c.if-not-is_directory.false)
