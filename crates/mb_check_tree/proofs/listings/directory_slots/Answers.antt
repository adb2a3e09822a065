use Rattle.std.proofs.Common.{◌+◌, ◌*◌, ◌/◌, ◌<◌, ◌≤◌, refl, ap, sym, ◌∙◌, arith}
use Rattle.mb_check.specs.Directories.{slots_before}
use Rattle.mb_check_files.proofs.Listing.{if_told}
use Rattle.mb_check_files.proofs.Underways.{told_of}
use Rattle.mb_check.proofs.PartReads.{before_is, next_before}
use Rattle.mb_check_tree.specs.Listings.{first_slots}
use Rattle.mb_check_tree.proofs.SlotListings.{first_all, first_none}
use Rattle.mb_check_tree.proofs.listings.directory_slots.Goals as goal

pub loop-part-init : goal.loop-part-init
loop-part-init g c = record {
  told = refl;
  later = omega arith;
  slots = if_told (g.D.Disk.told c.args.disk.now) _ (λ image told dir keeps. c.new-slots.ensures ∙ sym (first_none image.at dir (slots_before c.args.kept.now.size 0) (omega arith)));
}

pub loop-part-preserved : goal.loop-part-preserved
loop-part-preserved g c = record {
  told = c.add_part.ensures.told ∙ c.loop-part.invariant.told;
  later = (let a = c.loop-part.invariant.later in let b = c.add_part.ensures.cause.later in omega (arith, a, b));
  slots = if_told (g.D.Disk.told c.args.disk.now) _ (λ image told dir keeps.
      let end = c.parts_of-part-end.ensures in
      let inside = c.loop-part-test.true in
      let less : 512 * c.loop-part.part < c.args.kept.now.size = omega (arith, end, inside) in
      let so = told_of (g.D.Disk.told c.args.disk.now) image _ told c.loop-part.invariant.slots dir keeps in
      told_of (g.D.Disk.told c.loop-part.disk) image _ (c.loop-part.invariant.told ∙ told) c.in_ok-add_part.ensures.slots dir keeps
      (so ∙ ap (first_slots image.at dir) (before_is image.at c.args.table.now dir c.args.kept.now keeps c.loop-part.part less))
      ∙ ap (first_slots image.at dir) (next_before image.at c.args.table.now dir c.args.kept.now keeps c.loop-part.part less));
}

pub returns-clause-slots : goal.returns-clause-slots
returns-clause-slots g c = if_told (g.D.Disk.told c.args.disk.now) _ (λ image told dir keeps.
    let end = c.parts_of-part-end.ensures in
    let past : (c.args.kept.now.size + 511) / 512 ≤ c.loop-part.part = (let t = c.loop-part-test.false in omega (arith, end, t)) in
    told_of (g.D.Disk.told c.args.disk.now) image _ told c.loop-part.invariant.slots dir keeps ∙ first_all image.at c.args.table.now dir c.args.kept.now c.loop-part.part keeps past)
