use Rattle.std.proofs.Common.{◌≡◌, ℕ, List, Option, refl, ap, sym, subst, ◌∙◌, ◌+◌, arith}
use Rattle.mb_tree.specs.Blocks.{bytes_at, part_in}
use Rattle.mb_tree.specs.Cost.{most_parts}
use Rattle.mb_check_files.proofs.Listing.{if_told}
use Rattle.mb_check_files.proofs.Underways.{told_of}
use Rattle.mb_check_tree.specs.Filling.{HasBelow}
use Rattle.mb_check_tree.proofs.Fillings.{none_below}
use Rattle.mb_check_tree.proofs.WholeFiles.{all_parts, value_direct, value_double, value_single, value_triple}
use Rattle.mb_check_tree.proofs.parts.file_parts.Goals as goal

pub loop-place-init : goal.loop-place-init
loop-place-init g c = record {
  told = refl;
  later = omega arith;
  fills = if_told (g.D.Disk.told c.args.disk.now) _ (λ image told value each. subst (λ m. HasBelow m 0 value) (sym c.new-parts.ensures) (none_below value));
}

pub loop-place-preserved : goal.loop-place-preserved
loop-place-preserved g c = record {
  told = c.part.ensures.told ∙ c.loop-place.invariant.told;
  later = (let a = c.loop-place.invariant.later in let b = c.part.ensures.cause.later in omega (arith, a, b));
  fills = if_told (g.D.Disk.told c.args.disk.now) _ (λ image told value each.
      let w = c.from.ensures in
      let inside = c.loop-place-test.true in
      let so = subst (λ n. HasBelow c.loop-place.parts n value) (sym w) (told_of (g.D.Disk.told c.args.disk.now) image _ told c.loop-place.invariant.fills value each) in
      subst (λ n. HasBelow c.part.new.parts (n + 1) value) w
      (told_of (g.D.Disk.told c.loop-place.disk) image _ (c.loop-place.invariant.told ∙ told) c.in_ok-part.ensures.fills value so (λ k low.
      (let e : c.from.result + k ≡ c.loop-place.place = omega (arith, w, low) in ap value e) ∙ each c.loop-place.place inside ∙ ap (bytes_at image.at) (sym c.address.ensures))));
}

pub returns-clause-parts : goal.returns-clause-parts
returns-clause-parts g c = if_told (g.D.Disk.told c.args.disk.now) _ (λ image told ino holder reads.
    let value : ℕ → Option (List ℕ) = part_in image.at ino in
    let e : c.loop-place.place ≡ 10 = (let a = c.loop-place-test.false in let b = c.loop-place.auto.place-end in omega (arith, a, b)) in
    let told1 = c.loop-place.invariant.told ∙ told in
    let told2 = c.single.ensures.told ∙ told1 in
    let told3 = c.double.ensures.told ∙ told2 in
    let direct = subst (λ n. HasBelow c.loop-place.parts n value) e (told_of (g.D.Disk.told c.args.disk.now) image _ told c.loop-place.invariant.fills value (value_direct image.at ino holder c.args.inode.now reads)) in
    let one = told_of (g.D.Disk.told c.loop-place.disk) image _ told1 c.in_ok-single.ensures.fills value direct (λ k low. value_single image.at ino holder c.args.inode.now reads c.address-2.result k c.address-2.ensures low) in
    let two = told_of (g.D.Disk.told c.single.new.disk) image _ told2 c.in_ok-double.ensures.fills value one (λ k low. value_double image.at ino holder c.args.inode.now reads c.address-3.result k c.address-3.ensures low) in
    let three = told_of (g.D.Disk.told c.double.new.disk) image _ told3 c.in_ok-triple.ensures.fills value two (λ k low. value_triple image.at ino holder c.args.inode.now reads c.address-4.result k c.address-4.ensures low) in
    all_parts image.at ino c.triple.new.parts most_parts refl three)
