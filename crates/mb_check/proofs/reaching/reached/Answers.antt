use Rattle.std.proofs.Common.{◌≡◌, Some, slice_get, refl, sym, ◌∙◌, ◌≤◌, arith}
use Rattle.mb_tree.specs.Volume.{last_inode}
use Rattle.mb_check_files.proofs.Listing.{if_told}
use Rattle.mb_check_files.proofs.Underways.{told_of}
use Rattle.mb_check.proofs.Reaches.{all_reached, low_listed, past_all, past_none, read_more, read_none, root_reached}
use Rattle.mb_check.proofs.reaching.reached.Goals as goal

pub loop-place-init : goal.loop-place-init
loop-place-init g c = record {
  told = refl;
  later = omega arith;
  read = if_told (g.D.Disk.told c.args.disk.now) _ (λ image told keeps same enough.
      let low : 2 ≤ last_inode image.at = omega (arith, same, enough) in
      read_none image.at c.in_ok-reach.reach c.mark.new.self low (c.in_ok-mark.ensures image.at (λ small. root_reached image.at low) (c.in_ok-reach.ensures image.at same)));
}

pub loop-place-preserved : goal.loop-place-preserved
loop-place-preserved g c = record {
  told = c.directory_targets.ensures.told ∙ c.loop-place.invariant.told;
  later = (let a = c.loop-place.invariant.later in let b = c.directory_targets.ensures.cause.later in omega (arith, a, b));
  read = if_told (g.D.Disk.told c.args.disk.now) _ (λ image told keeps same enough.
      let so = told_of (g.D.Disk.told c.args.disk.now) image _ told c.loop-place.invariant.read keeps same enough in
      let has : slice_get c.loop-place.reach.list.items c.loop-place.place ≡ Some c.in-Some.dir = sym c.in-Some.ensures in
      let low = low_listed image.at c.loop-place.reach c.loop-place.place c.in-Some.dir so.reaching has in
      let up = so.reaching.reached c.in-Some.dir (so.reaching.flagged c.loop-place.place c.in-Some.dir has) in
      let more = told_of (g.D.Disk.told c.loop-place.disk) image _ (c.loop-place.invariant.told ∙ told) c.in_ok-directory_targets.ensures.reach keeps (omega (arith, same, enough)) low up so.reaching in
      read_more image.at c.loop-place.place c.in-Some.dir c.loop-place.reach c.directory_targets.new.reach so has more);
}

pub returns-in_default-clause-reached : goal.returns-in_default-clause-reached
returns-in_default-clause-reached g c = if_told (g.D.Disk.told c.args.disk.now) _ (λ image told keeps same enough.
    let so = told_of (g.D.Disk.told c.args.disk.now) image _ told c.loop-place.invariant.read keeps same enough in
    all_reached image.at c.loop-place.place c.loop-place.reach so (past_none c.loop-place.reach.list.items c.loop-place.place (sym c.at.ensures ∙ c.in_default.is)))

pub returns-clause-reached : goal.returns-clause-reached
returns-clause-reached g c = if_told (g.D.Disk.told c.args.disk.now) _ (λ image told keeps same enough.
    let so = told_of (g.D.Disk.told c.args.disk.now) image _ told c.loop-place.invariant.read keeps same enough in
    let past = past_all image.at c.loop-place.reach so.reaching in
    let end = c.from-place-end.ensures in
    let test = c.loop-place-test.false in
    all_reached image.at c.loop-place.place c.loop-place.reach so (omega (arith, past, same, end, test)))
