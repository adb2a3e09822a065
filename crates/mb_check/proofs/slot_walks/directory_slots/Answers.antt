use Rattle.std.proofs.Common.{◌≡◌, refl, ap, sym, ◌∙◌, subst, ◌+◌, ◌*◌, ◌/◌, ◌<◌, ◌≤◌, arith}
use Rattle.mb_tree.specs.Inodes.{is_directory}
use Rattle.mb_tree.specs.Volume.{last_inode}
use Rattle.mb_check.specs.Directories.{slots_before}
use Rattle.mb_check.specs.SlotTests.{KnowsNames}
use Rattle.mb_check.specs.Tallies.{KeepsCounts}
use Rattle.mb_check_files.proofs.Eachs.{each_none}
use Rattle.mb_check_files.proofs.Listing.{if_told}
use Rattle.mb_check_files.proofs.Stopping.{came_from}
use Rattle.mb_check_files.proofs.Underways.{told_of}
use Rattle.mb_check.proofs.PartReads.{before_is, next_before}
use Rattle.mb_check.proofs.SlotWalks.{tests_on}
use Rattle.mb_check.proofs.WholeDirectories.{keeps_directory, knows_none, other_next, other_walks, part_passes, part_stops, parts_counted, parts_pass}
use Rattle.mb_check.proofs.slot_walks.directory_slots.Goals as goal

pub returns-then-not-is_directory-clause-walk : goal.returns-then-not-is_directory-clause-walk
returns-then-not-is_directory-clause-walk g c = if_told (g.D.Disk.told c.args.disk.now) _ (λ image told met keeps from low.
    let inode = c.kept_of-kept.ensures.keeps image.at (last_inode image.at) keeps.inodes from low in
    other_walks image.at c.args.dir met (ap is_directory (sym inode.mode) ∙ sym c.is_directory.ensures ∙ c.if-not-is_directory.true))

pub returns-then-not-is_directory-clause-counts : goal.returns-then-not-is_directory-clause-counts
returns-then-not-is_directory-clause-counts g c = if_told (g.D.Disk.told c.args.disk.now) _ (λ image told keeps from low counts.
    let inode = c.kept_of-kept.ensures.keeps image.at (last_inode image.at) keeps.inodes from low in
    other_next image.at c.args.dir c.args.counts.now (ap is_directory (sym inode.mode) ∙ sym c.is_directory.ensures ∙ c.if-not-is_directory.true) counts)

pub loop-part-init : goal.loop-part-init
loop-part-init g c = record {
  told = refl;
  later = omega arith;
  walk = if_told (g.D.Disk.told c.args.disk.now) _ (λ image told met keeps from low. each_none _ met 0 (slots_before c.kept_of-kept.result.size 0) (omega arith));
  names = if_told (g.D.Disk.told c.args.disk.now) _ (λ image told keeps from low.
      subst (λ n. KnowsNames image.at c.args.dir n c.clear.new.self) (let e : 0 ≡ slots_before c.kept_of-kept.result.size 0 = omega arith in e) (knows_none image.at c.args.dir c.clear.new.self c.clear.ensures));
  counts = if_told (g.D.Disk.told c.args.disk.now) _ (λ image told keeps from low counts.
      subst (λ n. KeepsCounts image.at c.args.dir n c.args.counts.now) (let e : 0 ≡ slots_before c.kept_of-kept.result.size 0 = omega arith in e) counts);
}

pub returns-in_err-part_slots-clause-walk : goal.returns-in_err-part_slots-clause-walk
returns-in_err-part_slots-clause-walk g c = if_told (g.D.Disk.told c.args.disk.now) _ (λ image told met keeps from low.
    let here = c.loop-part.invariant.told ∙ told in
    let inode = c.kept_of-kept.ensures.keeps image.at (last_inode image.at) keeps.inodes from low in
    let directory = keeps_directory image.at c.args.table.now c.args.dir c.kept_of-kept.result keeps inode (sym c.is_directory.ensures ∙ c.if-not-is_directory.false) in
    let end = c.parts_of-part-end.ensures in
    let inside = c.loop-part-test.true in
    let less : 512 * c.loop-part.part < c.kept_of-kept.result.size = omega (arith, end, inside) in
    let so = told_of (g.D.Disk.told c.args.disk.now) image _ told c.loop-part.invariant.walk met keeps from low in
    let names = subst (λ n. KnowsNames image.at c.args.dir n c.loop-part.names) (before_is image.at c.args.table.now c.args.dir c.kept_of-kept.result directory c.loop-part.part less)
    (told_of (g.D.Disk.told c.args.disk.now) image _ told c.loop-part.invariant.names keeps from low) in
    rw (came_from c.from_residual.result c.in_err-part_slots.field-0.0 c.from_residual.ensures)
    (tests_on c.in_err-part_slots.field-0.0 met _ _ (part_stops image.at c.args.table.now c.args.dir c.kept_of-kept.result directory met c.loop-part.part less so)
    (told_of (g.D.Disk.told c.loop-part.disk) image _ here c.in_err-part_slots.ensures.walk met keeps.inodes directory names)))

pub loop-part-preserved : goal.loop-part-preserved
loop-part-preserved g c = record {
  told = c.part_slots.ensures.told ∙ c.loop-part.invariant.told;
  later = (let a = c.loop-part.invariant.later in let b = c.part_slots.ensures.cause.later in omega (arith, a, b));
  walk = if_told (g.D.Disk.told c.args.disk.now) _ (λ image told met keeps from low.
      let here = c.loop-part.invariant.told ∙ told in
      let inode = c.kept_of-kept.ensures.keeps image.at (last_inode image.at) keeps.inodes from low in
      let directory = keeps_directory image.at c.args.table.now c.args.dir c.kept_of-kept.result keeps inode (sym c.is_directory.ensures ∙ c.if-not-is_directory.false) in
      let end = c.parts_of-part-end.ensures in
      let inside = c.loop-part-test.true in
      let less : 512 * c.loop-part.part < c.kept_of-kept.result.size = omega (arith, end, inside) in
      let so = told_of (g.D.Disk.told c.args.disk.now) image _ told c.loop-part.invariant.walk met keeps from low in
      let names = subst (λ n. KnowsNames image.at c.args.dir n c.loop-part.names) (before_is image.at c.args.table.now c.args.dir c.kept_of-kept.result directory c.loop-part.part less)
      (told_of (g.D.Disk.told c.args.disk.now) image _ told c.loop-part.invariant.names keeps from low) in
      part_passes image.at c.args.table.now c.args.dir c.kept_of-kept.result directory met c.loop-part.part less so
      (told_of (g.D.Disk.told c.loop-part.disk) image _ here c.in_ok-part_slots.ensures.walk met keeps.inodes directory names));
  names = if_told (g.D.Disk.told c.args.disk.now) _ (λ image told keeps from low.
      let here = c.loop-part.invariant.told ∙ told in
      let inode = c.kept_of-kept.ensures.keeps image.at (last_inode image.at) keeps.inodes from low in
      let directory = keeps_directory image.at c.args.table.now c.args.dir c.kept_of-kept.result keeps inode (sym c.is_directory.ensures ∙ c.if-not-is_directory.false) in
      let end = c.parts_of-part-end.ensures in
      let inside = c.loop-part-test.true in
      let less : 512 * c.loop-part.part < c.kept_of-kept.result.size = omega (arith, end, inside) in
      let names = subst (λ n. KnowsNames image.at c.args.dir n c.loop-part.names) (before_is image.at c.args.table.now c.args.dir c.kept_of-kept.result directory c.loop-part.part less)
      (told_of (g.D.Disk.told c.args.disk.now) image _ told c.loop-part.invariant.names keeps from low) in
      subst (λ n. KnowsNames image.at c.args.dir n c.part_slots.new.names) (next_before image.at c.args.table.now c.args.dir c.kept_of-kept.result directory c.loop-part.part less)
      (told_of (g.D.Disk.told c.loop-part.disk) image _ here c.in_ok-part_slots.ensures.names directory names));
  counts = if_told (g.D.Disk.told c.args.disk.now) _ (λ image told keeps from low counts.
      let here = c.loop-part.invariant.told ∙ told in
      let inode = c.kept_of-kept.ensures.keeps image.at (last_inode image.at) keeps.inodes from low in
      let directory = keeps_directory image.at c.args.table.now c.args.dir c.kept_of-kept.result keeps inode (sym c.is_directory.ensures ∙ c.if-not-is_directory.false) in
      let end = c.parts_of-part-end.ensures in
      let inside = c.loop-part-test.true in
      let less : 512 * c.loop-part.part < c.kept_of-kept.result.size = omega (arith, end, inside) in
      let before = subst (λ n. KeepsCounts image.at c.args.dir n c.loop-part.counts) (before_is image.at c.args.table.now c.args.dir c.kept_of-kept.result directory c.loop-part.part less)
      (told_of (g.D.Disk.told c.args.disk.now) image _ told c.loop-part.invariant.counts keeps from low counts) in
      subst (λ n. KeepsCounts image.at c.args.dir n c.part_slots.new.counts) (next_before image.at c.args.table.now c.args.dir c.kept_of-kept.result directory c.loop-part.part less)
      (told_of (g.D.Disk.told c.loop-part.disk) image _ here c.in_ok-part_slots.ensures.counts directory before));
}

pub returns-clause-walk : goal.returns-clause-walk
returns-clause-walk g c = if_told (g.D.Disk.told c.args.disk.now) _ (λ image told met keeps from low.
    let inode = c.kept_of-kept.ensures.keeps image.at (last_inode image.at) keeps.inodes from low in
    let directory = keeps_directory image.at c.args.table.now c.args.dir c.kept_of-kept.result keeps inode (sym c.is_directory.ensures ∙ c.if-not-is_directory.false) in
    let end = c.parts_of-part-end.ensures in
    let past : (c.kept_of-kept.result.size + 511) / 512 ≤ c.loop-part.part = (let t = c.loop-part-test.false in omega (arith, end, t)) in
    parts_pass image.at c.args.table.now c.args.dir c.kept_of-kept.result directory met c.loop-part.part past (told_of (g.D.Disk.told c.args.disk.now) image _ told c.loop-part.invariant.walk met keeps from low))

pub returns-clause-counts : goal.returns-clause-counts
returns-clause-counts g c = if_told (g.D.Disk.told c.args.disk.now) _ (λ image told keeps from low counts.
    let inode = c.kept_of-kept.ensures.keeps image.at (last_inode image.at) keeps.inodes from low in
    let directory = keeps_directory image.at c.args.table.now c.args.dir c.kept_of-kept.result keeps inode (sym c.is_directory.ensures ∙ c.if-not-is_directory.false) in
    let end = c.parts_of-part-end.ensures in
    let past : (c.kept_of-kept.result.size + 511) / 512 ≤ c.loop-part.part = (let t = c.loop-part-test.false in omega (arith, end, t)) in
    parts_counted image.at c.args.table.now c.args.dir c.kept_of-kept.result directory c.loop-part.counts c.loop-part.part past (told_of (g.D.Disk.told c.args.disk.now) image _ told c.loop-part.invariant.counts keeps from low counts))
