use Rattle.std.proofs.Common.{◌+◌, Ok, Err, subst, sym, ◌∙◌, arith}
use Rattle.mb_check.specs.ParentTests.{KnowsLinks}
use Rattle.mb_check.specs.Reaching.{AreReached}
use Rattle.mb_check.specs.Tallies.{KeepsCounts}
use Rattle.mb_check_files.proofs.Listing.{if_told}
use Rattle.mb_check_files.proofs.Stopping.{came_from}
use Rattle.mb_check_files.proofs.Underways.{told_of}
use Rattle.mb_check.proofs.LateParts.{late_ends, leads_up, root_stops, slots_stop, unbroken_tests}
use Rattle.mb_check.proofs.SlotWalks.{tests_on}
use Rattle.mb_check.proofs.scans.late_parts.Goals as goal

pub returns-in_err-root-clause-walk : goal.returns-in_err-root-clause-walk
returns-in_err-root-clause-walk g c = if_told (g.D.Disk.told c.args.disk.now) _ (λ image told met keeps same enough.
    rw (came_from c.from_residual.result c.in_err-root.field-0.0 c.from_residual.ensures)
    (tests_on c.in_err-root.field-0.0 met _ _ (root_stops image.at met) (c.in_err-root.ensures.walk image.at met keeps (omega (arith, same, enough)))))

pub returns-in_err-each_directory-clause-walk : goal.returns-in_err-each_directory-clause-walk
returns-in_err-each_directory-clause-walk g c = if_told (g.D.Disk.told c.args.disk.now) _ (λ image told met keeps same enough.
    let root = c.in_ok-root.ensures.walk image.at met keeps (omega (arith, same, enough)) in
    rw (came_from c.from_residual-in_err-each_directory.result c.in_err-each_directory.field-0.0 c.from_residual-in_err-each_directory.ensures)
    (tests_on c.in_err-each_directory.field-0.0 met _ _ (slots_stop image.at met root) (told_of (g.D.Disk.told c.args.disk.now) image _ told c.in_err-each_directory.ensures.walk met keeps same)))

pub returns-in_err-flags-clause-walk : goal.returns-in_err-flags-clause-walk
returns-in_err-flags-clause-walk g c = if_told (g.D.Disk.told c.args.disk.now) _ (λ image told met keeps same enough.
    rw (came_from c.from_residual-in_err-flags.result c.in_err-flags.field-0.0 c.from_residual-in_err-flags.ensures)
    (unbroken_tests c.in_err-flags.field-0.0 met _ c.in_err-flags.ensures.unbroken))

pub returns-in_err-parents-clause-walk : goal.returns-in_err-parents-clause-walk
returns-in_err-parents-clause-walk g c = if_told (g.D.Disk.told c.args.disk.now) _ (λ image told met keeps same enough.
    let root = c.in_ok-root.ensures.walk image.at met keeps (omega (arith, same, enough)) in
    let slots = told_of (g.D.Disk.told c.args.disk.now) image _ told c.in_ok-each_directory.ensures.walk met keeps same in
    let counts = told_of (g.D.Disk.told c.args.disk.now) image _ told c.in_ok-each_directory.ensures.counts keeps same (c.in_ok-counts.ensures image.at same) in
    let flags = told_of (g.D.Disk.told c.each_directory.new.disk) image _ (c.each_directory.ensures.told ∙ told) c.in_ok-flags.ensures.reached keeps same enough in
    let knows : KnowsLinks image.at c.each_directory.new.counts c.deref.result.now = record {
      counted = subst (λ n. KeepsCounts image.at (n + 1) 0 c.each_directory.new.counts) same counts;
      upward = leads_up image.at c.args.table.now keeps met slots;
      flags = subst (AreReached image.at) (sym c.deref.ensures.value) flags;
    } in
    rw (came_from c.from_residual-in_err-parents.result c.in_err-parents.field-0.0 c.from_residual-in_err-parents.ensures)
    (tests_on c.in_err-parents.field-0.0 met _ _ (λ broken h. late_ends image.at met root (Err broken) slots h) (c.in_err-parents.ensures.walk image.at met keeps knows same)))

pub returns-clause-walk : goal.returns-clause-walk
returns-clause-walk g c = if_told (g.D.Disk.told c.args.disk.now) _ (λ image told met keeps same enough.
    let root = c.in_ok-root.ensures.walk image.at met keeps (omega (arith, same, enough)) in
    let slots = told_of (g.D.Disk.told c.args.disk.now) image _ told c.in_ok-each_directory.ensures.walk met keeps same in
    let counts = told_of (g.D.Disk.told c.args.disk.now) image _ told c.in_ok-each_directory.ensures.counts keeps same (c.in_ok-counts.ensures image.at same) in
    let flags = told_of (g.D.Disk.told c.each_directory.new.disk) image _ (c.each_directory.ensures.told ∙ told) c.in_ok-flags.ensures.reached keeps same enough in
    let knows : KnowsLinks image.at c.each_directory.new.counts c.deref.result.now = record {
      counted = subst (λ n. KeepsCounts image.at (n + 1) 0 c.each_directory.new.counts) same counts;
      upward = leads_up image.at c.args.table.now keeps met slots;
      flags = subst (AreReached image.at) (sym c.deref.ensures.value) flags;
    } in
    late_ends image.at met root (Ok met) slots (c.in_ok-parents.ensures.walk image.at met keeps knows same))
