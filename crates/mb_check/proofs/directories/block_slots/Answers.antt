use Rattle.std.proofs.Common.{◌≡◌, ◌+◌, ◌*◌, sym, ap, subst, ◌<◌, refl, arith}
use Rattle.mb_rules.specs.Slots.{slot_items}
use Rattle.mb_check.specs.SlotTests.{KnowsNames}
use Rattle.mb_check_files.proofs.Eachs.{each_none, each_more, each_stops}
use Rattle.mb_check_files.proofs.Stopping.{came_from}
use Rattle.mb_check.proofs.SlotWalks.{number_read, plain_read, tests_on}
use Rattle.mb_check.proofs.directories.block_slots.Goals as goal

pub loop-place-init : goal.loop-place-init
loop-place-init c = record {
  walk = λ blocks met keeps same there knows. each_none (slot_items blocks c.args.ino) met (32 * c.args.part) 0 refl;
  names = λ blocks same knows. subst (λ n. KnowsNames blocks c.args.ino n c.args.names.now) (let e : 32 * c.args.part ≡ 32 * c.args.part + 0 = omega arith in e) knows;
}

pub returns-in_err-slot-clause-walk : goal.returns-in_err-slot-clause-walk
returns-in_err-slot-clause-walk c blocks met keeps same there knows =
    let low = (let a = c.requires.count in let b = c.loop-place-test.true in let low : c.loop-place.place < 32 = omega arith in low) in
    let here = plain_read blocks c.args.ino c.args.part c.loop-place.place c.from.result c.args.block.now c.read-entry.result low c.from.ensures same c.read-entry.ensures in
    let number = number_read blocks c.args.ino c.args.part c.loop-place.place c.from.result c.args.number low c.from.ensures there in
    let names = subst (λ n. KnowsNames blocks c.args.ino (32 * c.args.part + n) c.loop-place.names) (sym c.from.ensures) (c.loop-place.invariant.names blocks same knows) in
    rw (came_from c.from_residual.result c.in_err-slot.field-0.0 c.from_residual.ensures)
    (tests_on c.in_err-slot.field-0.0 met _ _
    (λ broken h. each_stops (slot_items blocks c.args.ino) met met broken (32 * c.args.part) c.loop-place.place (32 * c.args.part + c.from.result) c.args.count (ap (λ n. 32 * c.args.part + n) (sym c.from.ensures)) c.loop-place-test.true (c.loop-place.invariant.walk blocks met keeps same there knows) h)
    (c.in_err-slot.ensures.walk blocks met keeps here number names))

pub loop-place-preserved : goal.loop-place-preserved
loop-place-preserved c = record {
  walk = λ blocks met keeps same there knows. (
      let low = (let a = c.requires.count in let b = c.loop-place-test.true in let low : c.loop-place.place < 32 = omega arith in low) in
      let here = plain_read blocks c.args.ino c.args.part c.loop-place.place c.from.result c.args.block.now c.read-entry.result low c.from.ensures same c.read-entry.ensures in
      let number = number_read blocks c.args.ino c.args.part c.loop-place.place c.from.result c.args.number low c.from.ensures there in
      let names = subst (λ n. KnowsNames blocks c.args.ino (32 * c.args.part + n) c.loop-place.names) (sym c.from.ensures) (c.loop-place.invariant.names blocks same knows) in
      each_more (slot_items blocks c.args.ino) met met met (32 * c.args.part) c.loop-place.place (32 * c.args.part + c.from.result) (c.loop-place.place + 1) (ap (λ n. 32 * c.args.part + n) (sym c.from.ensures)) (omega arith) (c.loop-place.invariant.walk blocks met keeps same there knows)
      (c.in_ok-slot.ensures.walk blocks met keeps here number names));
  names = λ blocks same knows. (
      let low = (let a = c.requires.count in let b = c.loop-place-test.true in let low : c.loop-place.place < 32 = omega arith in low) in
      let here = plain_read blocks c.args.ino c.args.part c.loop-place.place c.from.result c.args.block.now c.read-entry.result low c.from.ensures same c.read-entry.ensures in
      let names = subst (λ n. KnowsNames blocks c.args.ino (32 * c.args.part + n) c.loop-place.names) (sym c.from.ensures) (c.loop-place.invariant.names blocks same knows) in
      subst (λ n. KnowsNames blocks c.args.ino n c.slot.new.names) (let w = c.from.ensures in let e : 32 * c.args.part + c.from.result + 1 ≡ 32 * c.args.part + (c.loop-place.place + 1) = omega (arith, w) in e)
      (c.in_ok-slot.ensures.names blocks here names));
}
