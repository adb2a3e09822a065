use Rattle.std.proofs.Common.{◌≤◌, ◌+◌, ◌*◌, ◌-◌, ℕ, suc, List, length, ◌≡◌, [], ◌<◌, Ok, Err, true, false, refl, sym, ap, subst, ◌∙◌, arith}
use Rattle.mb_rules.specs.Items.{each_from, walked}
use Rattle.mb_rules.specs.Files.{inode_items}
use Rattle.mb_check_files.specs.InodeTables.{KeepsInodes}
use Rattle.mb_check_files.proofs.Eachs.{each_none, each_join, each_early}
use Rattle.mb_check_files.proofs.Listing.{if_told, given}
use Rattle.mb_check_files.proofs.Stopping.{came_from, passes_on}
use Rattle.mb_check_files.proofs.Underways.{told_of}
use Rattle.mb_check_files.proofs.inodes.each_inode.Goals as goal

pub loop-number-init : goal.loop-number-init
loop-number-init g c = record {
  told = refl;
  later = omega arith;
  walk = if_told (g.D.Disk.told c.args.disk.now) _ (λ image told list are stands. (list, each_none _ list 1 0 refl, stands));
  kept = if_told (g.D.Disk.told c.args.disk.now) _ (λ image told keeps. keeps);
  few = c.requires.paid;
}

pub returns-in_err-block_inodes-clause-walk : goal.returns-in_err-block_inodes-clause-walk
returns-in_err-block_inodes-clause-walk g c = if_told (g.D.Disk.told c.args.disk.now) _ (λ image told list are stands.
    let here = c.loop-number.invariant.told ∙ told in
    let so = told_of (g.D.Disk.told c.args.disk.now) image _ told c.loop-number.invariant.walk list are stands in
    let same = given (g.D.Disk.told c.loop-number.disk) image c.read.new.into c.loop-number.number here c.in_ok-read.ensures.bytes in
    rw (came_from c.from_residual-in_err-block_inodes.result c.in_err-block_inodes.field-0.0 c.from_residual-in_err-block_inodes.ensures)
    (passes_on c.in_err-block_inodes.field-0.0 c.block_inodes.new.met c.block_inodes.new.met so.0 list _ _
    (λ broken h. let more : 8 * (c.loop-number.number - 2) + 8 ≤ 8 * (c.args.bounds.now.low - 2) = (let a = c.loop-number.auto.number in let b = c.loop-number-test.true in omega (arith, a, b)) in
    ap (λ n. walked list (each_from (inode_items image.at) 1 (8 * (n - 2)))) are.low
    ∙ each_early (inode_items image.at) list broken 1 (8 * (c.loop-number.number - 2) + 8) (8 * (c.args.bounds.now.low - 2)) more
    (each_join (inode_items image.at) list so.0 _ 1 (8 * (c.loop-number.number - 2)) (8 * (c.loop-number.number - 2) + 1) 8 (omega arith) so.1 h))
    (told_of (g.D.Disk.told c.read.new.self) image _ (c.read.ensures.told ∙ here) c.in_err-block_inodes.ensures.walk so.0 same are so.2)))

pub loop-number-preserved : goal.loop-number-preserved
loop-number-preserved g c = record {
  told = c.block_inodes.ensures.told ∙ c.read.ensures.told ∙ c.loop-number.invariant.told;
  later = (let a = c.loop-number.invariant.later in let b = c.read.ensures.cause.later in let d = c.block_inodes.ensures.cause.later in omega (arith, a, b, d));
  walk = if_told (g.D.Disk.told c.args.disk.now) _ (λ image told list are stands.
      let here = c.loop-number.invariant.told ∙ told in
      let so = told_of (g.D.Disk.told c.args.disk.now) image _ told c.loop-number.invariant.walk list are stands in
      let same = given (g.D.Disk.told c.loop-number.disk) image c.read.new.into c.loop-number.number here c.in_ok-read.ensures.bytes in
      let next = told_of (g.D.Disk.told c.read.new.self) image _ (c.read.ensures.told ∙ here) c.in_ok-block_inodes.ensures.walk so.0 same are so.2 in
      let e : 8 * (c.loop-number.number - 2) + 8 ≡ 8 * (c.loop-number.number + 1 - 2) = (let a = c.loop-number.auto.number in omega (arith, a)) in (
        next.0,
        ap (λ n. walked list (each_from (inode_items image.at) 1 n)) (sym e)
            ∙ each_join (inode_items image.at) list so.0 _ 1 (8 * (c.loop-number.number - 2)) (8 * (c.loop-number.number - 2) + 1) 8 (omega arith) so.1 next.1,
        next.2,
      ));
  kept = if_told (g.D.Disk.told c.args.disk.now) _ (λ image told keeps.
      let here = c.loop-number.invariant.told ∙ told in
      let same = given (g.D.Disk.told c.loop-number.disk) image c.read.new.into c.loop-number.number here c.in_ok-read.ensures.bytes in
      let before = told_of (g.D.Disk.told c.args.disk.now) image _ told c.loop-number.invariant.kept keeps in
      let e : 8 * (c.loop-number.number - 2) + 8 ≡ 8 * (c.loop-number.number + 1 - 2) = (let a = c.loop-number.auto.number in omega (arith, a)) in
      subst (KeepsInodes image.at c.block_inodes.new.table) e (told_of (g.D.Disk.told c.read.new.self) image _ (c.read.ensures.told ∙ here) c.in_ok-block_inodes.ensures.kept same before));
  few = c.in_ok-block_inodes.ensures.few;
}

pub returns-clause-walk : goal.returns-clause-walk
returns-clause-walk g c = if_told (g.D.Disk.told c.args.disk.now) _ (λ image told list are stands.
    let so = told_of (g.D.Disk.told c.args.disk.now) image _ told c.loop-number.invariant.walk list are stands in
    let e : c.loop-number.number ≡ c.args.bounds.now.low = (let a = c.loop-number.auto.number-end in let b = c.loop-number-test.false in let d = c.requires.low in omega (arith, a, b, d)) in
    (so.0, ap (λ n. walked list (each_from (inode_items image.at) 1 (8 * (n - 2)))) (are.low ∙ sym e) ∙ so.1, so.2))

pub returns-clause-kept : goal.returns-clause-kept
returns-clause-kept g c = if_told (g.D.Disk.told c.args.disk.now) _ (λ image told keeps.
    let e : c.loop-number.number ≡ c.args.bounds.now.low = (let a = c.loop-number.auto.number-end in let b = c.loop-number-test.false in let d = c.requires.low in omega (arith, a, b, d)) in
    subst (λ n. KeepsInodes image.at c.loop-number.table (8 * (n - 2))) e (told_of (g.D.Disk.told c.args.disk.now) image _ told c.loop-number.invariant.kept keeps))
