use Rattle.std.proofs.Common.{◌≡◌, ap, subst, ◌∙◌, ◌+◌, ◌-◌, arith}
use Rattle.mb_tree.specs.Blocks.{entry_in}
use Rattle.mb_check_files.specs.Indexes.{under_single}
use Rattle.mb_check_files.proofs.Listing.{if_told, given}
use Rattle.mb_check_files.proofs.UnderIndexes.{hole_single}
use Rattle.mb_check_files.proofs.Underways.{told_of}
use Rattle.mb_check_tree.specs.Filling.{HasBelow}
use Rattle.mb_check_tree.proofs.Fillings.{entry_read, hole_fills, level_more}
use Rattle.mb_check_tree.proofs.parts.single.Goals as goal

pub returns-then-address-eq0-clause-fills : goal.returns-then-address-eq0-clause-fills
returns-then-address-eq0-clause-fills g c = if_told (g.D.Disk.told c.args.disk.now) _ (λ image told.
    hole_fills image.at c.args.parts.now c.args.number 128 (under_single image.at c.args.address) (λ k low. hole_single image.at c.args.address k c.if-address-eq0.true))

pub loop-place-init : goal.loop-place-init
loop-place-init g c = record {
  told = c.read.ensures.told;
  later = c.read.ensures.cause.later;
  fills = if_told (g.D.Disk.told c.args.disk.now) _ (λ image told value has each. subst (λ n. HasBelow c.args.parts.now n value) (let e : c.args.number ≡ c.args.number + 0 = omega arith in e) has);
}

pub loop-place-preserved : goal.loop-place-preserved
loop-place-preserved g c = record {
  told = c.part.ensures.told ∙ c.loop-place.invariant.told;
  later = (let a = c.loop-place.invariant.later in let b = c.part.ensures.cause.later in omega (arith, a, b));
  fills = if_told (g.D.Disk.told c.args.disk.now) _ (λ image told value has each.
      let w = c.from.ensures in
      let inside = c.loop-place-test.true in
      let same = given (g.D.Disk.told c.args.disk.now) image c.read.new.into c.args.address told c.in_ok-read.ensures.bytes in
      let entry = entry_read image.at c.args.address c.loop-place.place c.index_at.result c.read.new.into c.if-address-eq0.false same c.index_at.ensures in
      let so = subst (λ n. HasBelow c.loop-place.parts n value) (let e : c.args.number + c.loop-place.place ≡ c.args.number + c.from.result = omega (arith, w) in e) (told_of (g.D.Disk.told c.args.disk.now) image _ told c.loop-place.invariant.fills value has each) in
      let fills = told_of (g.D.Disk.told c.loop-place.disk) image _ (c.loop-place.invariant.told ∙ told) c.in_ok-part.ensures.fills in
      level_more image.at c.args.parts.now c.loop-place.parts c.part.new.parts c.args.number (c.args.number + c.from.result) (c.args.number + (c.loop-place.place + 1)) 1 128 (λ k. c.index_at.result) (under_single image.at c.args.address) value
      (omega (arith, w)) (omega arith) (omega (arith, inside)) so fills (λ k low. (let e : c.loop-place.place ≡ c.args.number + c.from.result - c.args.number + k = omega (arith, low, w) in entry ∙ ap (entry_in image.at c.args.address) e)) each);
}

pub returns-clause-fills : goal.returns-clause-fills
returns-clause-fills g c = if_told (g.D.Disk.told c.args.disk.now) _ (λ image told value has each.
    subst (λ n. HasBelow c.loop-place.parts n value) (let a = c.loop-place-test.false in let b = c.loop-place.auto.place-end in let e : c.args.number + c.loop-place.place ≡ c.args.number + 128 = omega (arith, a, b) in e)
    (told_of (g.D.Disk.told c.args.disk.now) image _ told c.loop-place.invariant.fills value has each))
