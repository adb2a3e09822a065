use Rattle.std.proofs.Common.{inl, inr, sym, ◌∙◌}
use Rattle.mb_tree.specs.Volume.{last_inode}
use Rattle.mb_check.proofs.Parenting.{link_holds, link_stops, other_link, skipped_mode, skipped_one, unskipped}
use Rattle.mb_check.proofs.links.link.Goals as goal

pub returns-then-kept-eq0-clause-walk : goal.returns-then-kept-eq0-clause-walk
returns-then-kept-eq0-clause-walk c blocks met keeps counts from low =
    let inode = c.kept_of-kept.ensures.keeps blocks (last_inode blocks) keeps.inodes from low in
    other_link blocks c.args.ino met (elim c.then-kept-eq0.either [
      | inl free ↦ skipped_mode blocks c.args.ino (sym inode.mode ∙ free)
      | inr one ↦ skipped_one blocks c.args.ino one.1
    ])

pub returns-then-not-is_link_count-clause-walk : goal.returns-then-not-is_link_count-clause-walk
returns-then-not-is_link_count-clause-walk c blocks met keeps counts from low =
    let inode = c.kept_of-kept.ensures.keeps blocks (last_inode blocks) keeps.inodes from low in
    link_stops blocks c.args.ino c.kept_of-kept.result.nlink c.tally_of.result inode.nlink (c.tally_of.ensures blocks counts low)
    (unskipped blocks c.args.ino (λ e. c.if-kept-eq0.false (inode.mode ∙ e)) c.if-ino-eq1.false) met c.inode_block.result c.inode_block.ensures (sym c.if-not-is_link_count.true ∙ c.is_link_count.ensures)

pub returns-clause-walk : goal.returns-clause-walk
returns-clause-walk c blocks met keeps counts from low =
    let inode = c.kept_of-kept.ensures.keeps blocks (last_inode blocks) keeps.inodes from low in
    link_holds blocks c.args.ino c.kept_of-kept.result.nlink c.tally_of.result inode.nlink (c.tally_of.ensures blocks counts low)
    (unskipped blocks c.args.ino (λ e. c.if-kept-eq0.false (inode.mode ∙ e)) c.if-ino-eq1.false) met (sym c.if-not-is_link_count.false ∙ c.is_link_count.ensures)
