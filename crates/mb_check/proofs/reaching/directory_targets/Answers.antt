use Rattle.std.proofs.Common.{refl, ap, sym, ◌∙◌, ◌+◌, ◌*◌, ◌/◌, ◌<◌, ◌≤◌, arith}
use Rattle.mb_tree.specs.Inodes.{is_directory}
use Rattle.mb_tree.specs.Volume.{last_inode}
use Rattle.mb_check_files.proofs.Listing.{if_told}
use Rattle.mb_check_files.proofs.Underways.{told_of}
use Rattle.mb_check.proofs.Marking.{mode_kept, no_targets, real_directory, targets_all, targets_more, targets_none, targets_so_far}
use Rattle.mb_check.proofs.WholeDirectories.{keeps_directory}
use Rattle.mb_check.proofs.reaching.directory_targets.Goals as goal

pub returns-then-not-is_directory-clause-reach : goal.returns-then-not-is_directory-clause-reach
returns-then-not-is_directory-clause-reach g c = if_told (g.D.Disk.told c.args.disk.now) _ (λ image told keeps enough low up reaching.
    no_targets image.at c.args.table.now c.args.dir c.kept_of-kept.result c.args.reach.now reaching (sym c.is_directory.ensures ∙ c.if-not-is_directory.true)
    (mode_kept image.at c.args.table.now c.args.dir c.kept_of-kept.result keeps low c.kept_of-kept.ensures.keeps c.kept_of-kept.ensures.none))

pub loop-part-init : goal.loop-part-init
loop-part-init g c = record {
  told = refl;
  later = omega arith;
  reach = if_told (g.D.Disk.told c.args.disk.now) _ (λ image told keeps enough low up reaching.
      let is = sym c.is_directory.ensures ∙ c.if-not-is_directory.false in
      let from = real_directory image.at c.args.table.now c.args.dir c.kept_of-kept.result keeps is c.kept_of-kept.ensures.none in
      let directory = keeps_directory image.at c.args.table.now c.args.dir c.kept_of-kept.result keeps (c.kept_of-kept.ensures.keeps image.at (last_inode image.at) keeps.inodes from low) is in
      targets_none image.at c.args.table.now c.args.dir c.kept_of-kept.result directory c.args.reach.now reaching);
}

pub loop-part-preserved : goal.loop-part-preserved
loop-part-preserved g c = record {
  told = c.part_targets.ensures.told ∙ c.loop-part.invariant.told;
  later = (let a = c.loop-part.invariant.later in let b = c.part_targets.ensures.cause.later in omega (arith, a, b));
  reach = if_told (g.D.Disk.told c.args.disk.now) _ (λ image told keeps enough low up reaching.
      let is = sym c.is_directory.ensures ∙ c.if-not-is_directory.false in
      let from = real_directory image.at c.args.table.now c.args.dir c.kept_of-kept.result keeps is c.kept_of-kept.ensures.none in
      let inode = c.kept_of-kept.ensures.keeps image.at (last_inode image.at) keeps.inodes from low in
      let directory = keeps_directory image.at c.args.table.now c.args.dir c.kept_of-kept.result keeps inode is in
      let end = c.parts_of-part-end.ensures in
      let inside = c.loop-part-test.true in
      let less : 512 * c.loop-part.part < c.kept_of-kept.result.size = omega (arith, end, inside) in
      let so = told_of (g.D.Disk.told c.args.disk.now) image _ told c.loop-part.invariant.reach keeps enough low up reaching in
      let slots = targets_so_far image.at c.args.table.now c.args.dir c.kept_of-kept.result directory c.loop-part.part c.args.reach.now c.loop-part.reach less so in
      targets_more image.at c.args.table.now c.args.dir c.kept_of-kept.result directory c.loop-part.part c.args.reach.now c.loop-part.reach c.part_targets.new.reach less so
      (told_of (g.D.Disk.told c.loop-part.disk) image _ (c.loop-part.invariant.told ∙ told) c.in_ok-part_targets.ensures.reach c.args.dir directory
      (record { within = low; enough = enough; reached = up; directory = ap is_directory (sym inode.mode) ∙ is }) so.reaching slots));
}

pub returns-clause-reach : goal.returns-clause-reach
returns-clause-reach g c = if_told (g.D.Disk.told c.args.disk.now) _ (λ image told keeps enough low up reaching.
    let is = sym c.is_directory.ensures ∙ c.if-not-is_directory.false in
    let from = real_directory image.at c.args.table.now c.args.dir c.kept_of-kept.result keeps is c.kept_of-kept.ensures.none in
    let directory = keeps_directory image.at c.args.table.now c.args.dir c.kept_of-kept.result keeps (c.kept_of-kept.ensures.keeps image.at (last_inode image.at) keeps.inodes from low) is in
    let end = c.parts_of-part-end.ensures in
    let past : (c.kept_of-kept.result.size + 511) / 512 ≤ c.loop-part.part = (let t = c.loop-part-test.false in omega (arith, end, t)) in
    targets_all image.at c.args.table.now c.args.dir c.kept_of-kept.result directory c.loop-part.part c.args.reach.now c.loop-part.reach past
    (told_of (g.D.Disk.told c.args.disk.now) image _ told c.loop-part.invariant.reach keeps enough low up reaching))
