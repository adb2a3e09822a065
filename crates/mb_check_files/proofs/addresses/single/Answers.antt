use Rattle.std.proofs.Common.{◌≤◌, ◌+◌, ◌*◌, ◌-◌, ℕ, suc, List, length, ◌≡◌, [], ◌<◌, Ok, Err, refl, sym, ap, subst, ◌∙◌, arith}
use Rattle.mb_check_files.proofs.Addressing.{hole_walks, stops_at, stops_under, more_under, done_under}
use Rattle.mb_check_files.proofs.Eachs.{each_none}
use Rattle.mb_check_files.proofs.Listing.{if_told, given}
use Rattle.mb_check_files.proofs.Notings.{notes_none, extends_same, extends_more}
use Rattle.mb_check_files.proofs.Stopping.{came_from, passes_on}
use Rattle.mb_check_files.proofs.Underways.{told_of}
use Rattle.mb_check_files.proofs.UnderIndexes.{hole_single, all_single, more_single}
use Rattle.mb_check_files.proofs.addresses.single.Goals as goal

pub returns-then-address-eq0-clause-walk : goal.returns-then-address-eq0-clause-walk
returns-then-address-eq0-clause-walk g c = if_told (g.D.Disk.told c.args.disk.now) _ (λ image told list are stands.
    (list, hole_walks image.at list 1 c.args.holder c.args.address c.if-address-eq0.true, stands))

pub returns-then-address-eq0-clause-notes : goal.returns-then-address-eq0-clause-notes
returns-then-address-eq0-clause-notes g c = if_told (g.D.Disk.told c.args.disk.now) _ (λ image told.
    c.pass.ensures.notes _ 128 (omega arith) (λ k low. hole_single image.at c.args.address k c.if-address-eq0.true))

pub returns-in_err-index-clause-walk : goal.returns-in_err-index-clause-walk
returns-in_err-index-clause-walk g c = if_told (g.D.Disk.told c.args.disk.now) _ (λ image told list are stands.
    rw (came_from c.from_residual.result c.in_err-index.field-0.0 c.from_residual.ensures)
    (passes_on c.in_err-index.field-0.0 c.index.new.met c.index.new.met list list _ _
    (λ broken h. stops_at image.at 0 c.args.holder c.args.address c.if-address-eq0.false list broken h)
    (told_of (g.D.Disk.told c.args.disk.now) image _ told c.in_err-index.ensures.walk list are stands)))

pub loop-place-init : goal.loop-place-init
loop-place-init g c = record {
  walk = λ blocks list are stands. (list, each_none _ list 0 0 refl, stands);
  notes = notes_none _ _;
  kept = extends_same _;
  few = record { paid = omega arith };
}

pub returns-in_err-part-clause-walk : goal.returns-in_err-part-clause-walk
returns-in_err-part-clause-walk g c = if_told (g.D.Disk.told c.args.disk.now) _ (λ image told list are stands.
    let same = given (g.D.Disk.told c.args.disk.now) image c.index.new.block c.args.address told c.in_ok-index.ensures.bytes in
    let head = told_of (g.D.Disk.told c.args.disk.now) image _ told c.in_ok-index.ensures.walk list are stands in
    let so = c.loop-place.invariant.walk image.at head.0 are head.2 in
    rw (came_from c.from_residual-in_err-part.result c.in_err-part.field-0.0 c.from_residual-in_err-part.ensures)
    (passes_on c.in_err-part.field-0.0 c.part.new.met c.part.new.met so.0 list _ _
    (λ broken h. stops_under image.at 0 c.args.holder c.args.address c.if-address-eq0.false list c.index.new.block same head.0 head.1 so.0 broken c.loop-place.place c.index_at.result c.loop-place-test.true c.index_at.ensures so.1 h)
    (c.in_err-part.ensures.walk image.at so.0 are so.2)))

pub loop-place-preserved : goal.loop-place-preserved
loop-place-preserved g c = record {
  walk = λ blocks list are stands. (
      let so = c.loop-place.invariant.walk blocks list are stands in
      let next = c.in_ok-part.ensures.walk blocks so.0 are so.2 in
      (next.0, more_under blocks 0 c.args.address c.index.new.block list so.0 next.0 c.loop-place.place c.index_at.result c.index_at.ensures so.1 next.1, next.2));
  notes = more_single _ _ _ c.index.new.block c.loop-place.place c.index_at.result c.index_at.ensures c.loop-place.invariant.notes c.in_ok-part.ensures.notes;
  kept = extends_more _ _ _ c.loop-place.invariant.kept c.in_ok-part.ensures.kept;
  few = (let a = c.loop-place.invariant.few.paid in let b = c.in_ok-part.ensures.few.paid in record { paid = omega (arith, a, b) });
}

pub returns-clause-walk : goal.returns-clause-walk
returns-clause-walk g c = if_told (g.D.Disk.told c.args.disk.now) _ (λ image told list are stands.
    let same = given (g.D.Disk.told c.args.disk.now) image c.index.new.block c.args.address told c.in_ok-index.ensures.bytes in
    let head = told_of (g.D.Disk.told c.args.disk.now) image _ told c.in_ok-index.ensures.walk list are stands in
    let so = c.loop-place.invariant.walk image.at head.0 are head.2 in
    let most = c.loop-place.auto.place-end in
    let past = c.loop-place-test.false in
    (so.0, done_under image.at 0 c.args.holder c.args.address c.if-address-eq0.false list c.index.new.block same head.0 head.1 so.0 c.loop-place.place (omega arith) so.1, so.2))

pub returns-clause-notes : goal.returns-clause-notes
returns-clause-notes g c = if_told (g.D.Disk.told c.args.disk.now) _ (λ image told.
    let same = given (g.D.Disk.told c.args.disk.now) image c.index.new.block c.args.address told c.in_ok-index.ensures.bytes in
    let most = c.loop-place.auto.place-end in
    let past = c.loop-place-test.false in
    all_single image.at c.args.address c.if-address-eq0.false c.index.new.block same _ _ c.loop-place.place (omega arith) c.loop-place.invariant.notes)

pub returns-clause-few : goal.returns-clause-few
returns-clause-few g c = (let a = c.loop-place.invariant.few.paid in let b = c.in_ok-index.ensures.count in record { paid = omega (arith, a, b) })
