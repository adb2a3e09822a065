use Rattle.std.proofs.Common.{◌≡◌, refl, ap, sym, ◌∙◌, subst, ◌+◌, ◌≤◌, arith}
use Rattle.mb_tree.specs.Volume.{last_inode}
use Rattle.mb_rules.specs.Items.{each_from, walked}
use Rattle.mb_rules.specs.Slots.{directory_items}
use Rattle.mb_check.specs.Tallies.{KeepsCounts}
use Rattle.mb_check_files.proofs.Eachs.{each_more, each_none, each_stops}
use Rattle.mb_check_files.proofs.Listing.{if_told}
use Rattle.mb_check_files.proofs.Stopping.{came_from}
use Rattle.mb_check_files.proofs.Underways.{told_of}
use Rattle.mb_check.proofs.SlotWalks.{tests_on}
use Rattle.mb_check.proofs.slot_walks.each_directory.Goals as goal

pub loop-before-init : goal.loop-before-init
loop-before-init g c = record {
  told = refl;
  later = omega arith;
  walk = if_told (g.D.Disk.told c.args.disk.now) _ (λ image told met keeps same. each_none (directory_items image.at) met 1 0 refl);
  counts = if_told (g.D.Disk.told c.args.disk.now) _ (λ image told keeps same counts. counts);
}

pub returns-in_err-directory_slots-clause-walk : goal.returns-in_err-directory_slots-clause-walk
returns-in_err-directory_slots-clause-walk g c = if_told (g.D.Disk.told c.args.disk.now) _ (λ image told met keeps same.
    let inside = c.loop-before-test.true in
    let from : 1 ≤ c.loop-before.before + 1 = omega arith in
    let low : c.loop-before.before + 1 ≤ last_inode image.at = omega (arith, inside, same) in
    let so = told_of (g.D.Disk.told c.args.disk.now) image _ told c.loop-before.invariant.walk met keeps same in
    rw (came_from c.from_residual.result c.in_err-directory_slots.field-0.0 c.from_residual.ensures)
    (tests_on c.in_err-directory_slots.field-0.0 met _ _
    (λ broken h. each_stops (directory_items image.at) met met broken 1 c.loop-before.before (c.loop-before.before + 1) (last_inode image.at) (omega arith) (omega (arith, inside, same)) so h)
    (told_of (g.D.Disk.told c.loop-before.disk) image _ (c.loop-before.invariant.told ∙ told) c.in_err-directory_slots.ensures.walk met keeps from low)))

pub loop-before-preserved : goal.loop-before-preserved
loop-before-preserved g c = record {
  told = c.directory_slots.ensures.told ∙ c.loop-before.invariant.told;
  later = (let a = c.loop-before.invariant.later in let b = c.directory_slots.ensures.cause.later in omega (arith, a, b));
  walk = if_told (g.D.Disk.told c.args.disk.now) _ (λ image told met keeps same.
      let inside = c.loop-before-test.true in
      let from : 1 ≤ c.loop-before.before + 1 = omega arith in
      let low : c.loop-before.before + 1 ≤ last_inode image.at = omega (arith, inside, same) in
      let so = told_of (g.D.Disk.told c.args.disk.now) image _ told c.loop-before.invariant.walk met keeps same in
      each_more (directory_items image.at) met met met 1 c.loop-before.before (c.loop-before.before + 1) (c.loop-before.before + 1) (omega arith) (omega arith) so
      (told_of (g.D.Disk.told c.loop-before.disk) image _ (c.loop-before.invariant.told ∙ told) c.in_ok-directory_slots.ensures.walk met keeps from low));
  counts = if_told (g.D.Disk.told c.args.disk.now) _ (λ image told keeps same counts.
      let inside = c.loop-before-test.true in
      let from : 1 ≤ c.loop-before.before + 1 = omega arith in
      let low : c.loop-before.before + 1 ≤ last_inode image.at = omega (arith, inside, same) in
      told_of (g.D.Disk.told c.loop-before.disk) image _ (c.loop-before.invariant.told ∙ told) c.in_ok-directory_slots.ensures.counts keeps from low
      (told_of (g.D.Disk.told c.args.disk.now) image _ told c.loop-before.invariant.counts keeps same counts));
}

pub returns-clause-walk : goal.returns-clause-walk
returns-clause-walk g c = if_told (g.D.Disk.told c.args.disk.now) _ (λ image told met keeps same.
    let e : c.loop-before.before ≡ last_inode image.at = (let a = c.loop-before-test.false in let b = c.loop-before.auto.before-end in omega (arith, a, b, same)) in
    ap (λ n. walked met (each_from (directory_items image.at) 1 n)) (sym e) ∙ told_of (g.D.Disk.told c.args.disk.now) image _ told c.loop-before.invariant.walk met keeps same)

pub returns-clause-counts : goal.returns-clause-counts
returns-clause-counts g c = if_told (g.D.Disk.told c.args.disk.now) _ (λ image told keeps same counts.
    let e : c.loop-before.before ≡ c.args.last = (let a = c.loop-before-test.false in let b = c.loop-before.auto.before-end in omega (arith, a, b)) in
    subst (λ n. KeepsCounts image.at (n + 1) 0 c.loop-before.counts) e (told_of (g.D.Disk.told c.args.disk.now) image _ told c.loop-before.invariant.counts keeps same counts))
