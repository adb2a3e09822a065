use Rattle.std.proofs.Common.{ap, sym, ◌∙◌}
use Rattle.mb_word.specs.Fields.{inode_block}
use Rattle.mb_tree.specs.Inodes.{is_directory}
use Rattle.mb_tree.specs.Volume.{last_inode}
use Rattle.mb_tree.specs.declared.nodes.Body.TheVariants.{Regular, Directory}
use Rattle.mb_check_files.proofs.Listing.{if_told}
use Rattle.mb_check_files.proofs.Underways.{told_of}
use Rattle.mb_check.proofs.WholeDirectories.{keeps_directory}
use Rattle.mb_check_tree.proofs.NodesRead.{directory_body, inode_read, kept_mode, regular_body, special_body}
use Rattle.mb_check_tree.proofs.nodes.body.Goals as goal

pub returns-then-is_regular-clause-body : goal.returns-then-is_regular-clause-body
returns-then-is_regular-clause-body g c = if_told (g.D.Disk.told c.args.disk.now) _ (λ image told keeps from low is.
    let reads = inode_read image.at c.args.ino from c.args.inode.now is (g.met.D.Disk.sized c.args.disk.now image (inode_block c.args.ino) told) in
    let parts = told_of (g.D.Disk.told c.args.disk.now) image _ told c.in_ok-parts.ensures.parts c.args.ino (inode_block c.args.ino) reads in
    ap (λ p. Regular c.args.inode.now.size p) parts ∙ regular_body image.at c.args.ino from c.args.inode.now is (sym c.is_regular.ensures ∙ c.if-is_regular.true))

pub returns-then-is_directory-clause-body : goal.returns-then-is_directory-clause-body
returns-then-is_directory-clause-body g c = if_told (g.D.Disk.told c.args.disk.now) _ (λ image told keeps from low is.
    let kept = c.kept_of.ensures.keeps image.at (last_inode image.at) keeps.inodes from low in
    let d = sym c.is_directory.ensures ∙ c.if-is_directory.true in
    let mode = kept_mode image.at c.args.ino from c.args.inode.now is c.kept_of.result.mode kept.mode in
    let directory = keeps_directory image.at c.args.table.now c.args.ino c.kept_of.result keeps kept (ap is_directory mode ∙ d) in
    let slots = told_of (g.D.Disk.told c.args.disk.now) image _ told c.in_ok-slots.ensures.slots c.args.ino directory in
    ap (λ s. Directory s) slots ∙ directory_body image.at c.args.ino from c.args.inode.now is (sym c.is_regular.ensures ∙ c.if-is_regular.false) d)

pub returns-clause-body : goal.returns-clause-body
returns-clause-body g c = if_told (g.D.Disk.told c.args.disk.now) _ (λ image told keeps from low is.
    special_body image.at c.args.ino from c.args.inode.now is (sym c.is_regular.ensures ∙ c.if-is_regular.false) (sym c.is_directory.ensures ∙ c.if-is_directory.false))
