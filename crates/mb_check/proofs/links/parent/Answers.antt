use Rattle.std.proofs.Common.{ap, sym, ◌∙◌}
use Rattle.mb_tree.specs.Inodes.{is_directory}
use Rattle.mb_tree.specs.Volume.{last_inode}
use Rattle.mb_check.proofs.Parenting.{other_parent, parent_holds, parent_stops}
use Rattle.mb_check.proofs.links.parent.Goals as goal

pub returns-then-not-is_directory-clause-walk : goal.returns-then-not-is_directory-clause-walk
returns-then-not-is_directory-clause-walk c blocks met keeps knows from low =
    let inode = c.kept_of.ensures.keeps blocks (last_inode blocks) keeps.inodes from low in
    other_parent blocks c.args.ino met (ap is_directory (sym inode.mode) ∙ sym c.is_directory.ensures ∙ c.if-not-is_directory.true)

pub returns-then-not-keeps_parent-clause-walk : goal.returns-then-not-keeps_parent-clause-walk
returns-then-not-keeps_parent-clause-walk c blocks met keeps knows from low =
    let inode = c.kept_of.ensures.keeps blocks (last_inode blocks) keeps.inodes from low in
    let is = ap is_directory (sym inode.mode) ∙ sym c.is_directory.ensures ∙ c.if-not-is_directory.false in
    parent_stops blocks c.args.ino met c.inode_block.result is c.inode_block.ensures (sym c.if-not-keeps_parent.true ∙ c.keeps_parent.ensures blocks knows from low is)

pub returns-clause-walk : goal.returns-clause-walk
returns-clause-walk c blocks met keeps knows from low =
    let inode = c.kept_of.ensures.keeps blocks (last_inode blocks) keeps.inodes from low in
    let is = ap is_directory (sym inode.mode) ∙ sym c.is_directory.ensures ∙ c.if-not-is_directory.false in
    parent_holds blocks c.args.ino met is (sym c.if-not-keeps_parent.false ∙ c.keeps_parent.ensures blocks knows from low is)
