use Rattle.std.proofs.Common.{◌≤◌, ◌+◌, ◌*◌, ◌-◌, ℕ, suc, List, length, ◌≡◌, [], ◌<◌, Ok, Err, true, false, refl, sym, ap, subst, ◌∙◌, arith}
use Rattle.mb_rules.specs.Items.{each_from, walked}
use Rattle.mb_rules.specs.Files.{inode_items}
use Rattle.mb_check_files.specs.InodeTables.{KeepsInodes}
use Rattle.mb_check_files.proofs.Eachs.{each_none, each_more, each_stops}
use Rattle.mb_check_files.proofs.Listing.{if_told}
use Rattle.mb_check_files.proofs.Stopping.{came_from, passes_on}
use Rattle.mb_check_files.proofs.Tables.{keeps_found, keeps_more, reads_found}
use Rattle.mb_check_files.proofs.Underways.{told_of}
use Rattle.mb_check_files.proofs.inodes.block_inodes.Goals as goal

pub loop-place-init : goal.loop-place-init
loop-place-init g c = record {
  told = refl;
  later = omega arith;
  walk = if_told (g.D.Disk.told c.args.disk.now) _ (λ image told list same are stands. (list, each_none _ list _ 0 refl, stands));
  kept = if_told (g.D.Disk.told c.args.disk.now) _ (λ image told same keeps. subst (KeepsInodes image.at c.args.table.now) (let e : 8 * (c.args.number - 2) ≡ 8 * (c.args.number - 2) + 0 = omega arith in e) keeps);
  few = c.requires.paid;
}

pub returns-in_err-inode-clause-walk : goal.returns-in_err-inode-clause-walk
returns-in_err-inode-clause-walk g c = if_told (g.D.Disk.told c.args.disk.now) _ (λ image told list same are stands.
    let so = told_of (g.D.Disk.told c.args.disk.now) image _ told c.loop-place.invariant.walk list same are stands in
    let reads = reads_found c.args.number c.loop-place.place c.args.block.now image.at c.read-found.result c.requires.number c.loop-place-test.true same (omega arith) c.read-found.ensures in
    rw (came_from c.from_residual.result c.in_err-inode.field-0.0 c.from_residual.ensures)
    (passes_on c.in_err-inode.field-0.0 c.inode.new.met c.inode.new.met so.0 list _ _
    (λ broken h. each_stops (inode_items image.at) list so.0 broken (8 * (c.args.number - 2) + 1) c.loop-place.place (8 * (c.args.number - 2) + 1 + c.loop-place.place) 8 refl c.loop-place-test.true so.1 h)
    (told_of (g.D.Disk.told c.loop-place.disk) image _ (c.loop-place.invariant.told ∙ told) c.in_err-inode.ensures.walk (8 * (c.args.number - 2) + 1 + c.loop-place.place) so.0 reads are so.2)))

pub loop-place-preserved : goal.loop-place-preserved
loop-place-preserved g c = record {
  told = c.inode.ensures.told ∙ c.loop-place.invariant.told;
  later = (let before = c.loop-place.invariant.later in let now = c.inode.ensures.cause.later in omega (arith, before, now));
  walk = if_told (g.D.Disk.told c.args.disk.now) _ (λ image told list same are stands.
      let so = told_of (g.D.Disk.told c.args.disk.now) image _ told c.loop-place.invariant.walk list same are stands in
      let reads = reads_found c.args.number c.loop-place.place c.args.block.now image.at c.read-found.result c.requires.number c.loop-place-test.true same (omega arith) c.read-found.ensures in
      let next = told_of (g.D.Disk.told c.loop-place.disk) image _ (c.loop-place.invariant.told ∙ told) c.in_ok-inode.ensures.walk (8 * (c.args.number - 2) + 1 + c.loop-place.place) so.0 reads are so.2 in
      (next.0, each_more (inode_items image.at) list so.0 next.0 (8 * (c.args.number - 2) + 1) c.loop-place.place (8 * (c.args.number - 2) + 1 + c.loop-place.place) (c.loop-place.place + 1) refl (omega arith) so.1 next.1, next.2));
  kept = if_told (g.D.Disk.told c.args.disk.now) _ (λ image told same keeps.
      let reads = reads_found c.args.number c.loop-place.place c.args.block.now image.at c.read-found.result c.requires.number c.loop-place-test.true same (omega arith) c.read-found.ensures in
      let before = told_of (g.D.Disk.told c.args.disk.now) image _ told c.loop-place.invariant.kept same keeps in
      let listed = told_of (g.D.Disk.told c.loop-place.disk) image _ (c.loop-place.invariant.told ∙ told) c.in_ok-inode.ensures.listed (8 * (c.args.number - 2) + 1 + c.loop-place.place) reads in
      subst (KeepsInodes image.at (record { inodes = c.push.new.self; parts = c.inode.new.parts })) (let e : 8 * (c.args.number - 2) + c.loop-place.place + 1 ≡ 8 * (c.args.number - 2) + (c.loop-place.place + 1) = omega arith in e)
      (keeps_more image.at c.loop-place.table (record { inodes = c.push.new.self; parts = c.inode.new.parts }) (8 * (c.args.number - 2) + c.loop-place.place) _ before c.in_ok-push.ensures.items c.in_ok-inode.ensures.kept
      (keeps_found image.at c.args.number c.inode.new.parts.addresses.items c.loop-place.table.parts.addresses.items (8 * (c.args.number - 2) + 1 + c.loop-place.place) (8 * (c.args.number - 2) + c.loop-place.place + 1) c.read-found.result c.place-first.result (omega arith) c.place-first.ensures reads listed)));
  few = (let a = c.in_ok-inode.ensures.few.paid in let b = c.loop-place.invariant.few in omega (arith, a, b));
}
