use Rattle.std.proofs.Common.{◌≡◌, ◌+◌, ◌*◌, ◌<◌, ◌≤◌, ap, subst, ◌∙◌, arith}
use Rattle.mb_layout.specs.declared.slots.Slot.{Slot}
use Rattle.mb_tree.specs.declared.nodes.PlainSlot.{PlainSlot}
use Rattle.mb_check.specs.Reaching.{Advances}
use Rattle.mb_check.proofs.Marking.{advance, advances_less, advances_none, number_reached}
use Rattle.mb_check.proofs.SlotWalks.{slot_read}
use Rattle.mb_check.proofs.reaching.Reach.mark_block.Goals as goal

pub loop-place-init : goal.loop-place-init
loop-place-init c blocks dir same from low reaching slots =
    advances_none blocks dir (32 * c.args.part + c.first_late-place.result) c.args.self.now reaching (λ at late less small. slots at late (let e = c.first_late-place.ensures in omega (arith, e, late, less)) small)

pub loop-place-preserved : goal.loop-place-preserved
loop-place-preserved c blocks dir same from low reaching slots =
    let inside = c.loop-place-test.true in
    let few = c.requires in
    let place : c.loop-place.place < 32 = omega (arith, inside, few) in
    let number = ap (λ (s : Slot). s.ino) c.read.ensures ∙ ap (λ (s : PlainSlot). s.ino) (slot_read blocks dir c.args.part c.loop-place.place c.args.block.now place same) in
    let late : 2 ≤ 32 * c.args.part + c.loop-place.place = (let a = c.first_late-place.ensures in let b = c.loop-place.auto.place in omega (arith, a, b)) in
    let so = c.loop-place.invariant blocks dir same from low reaching slots in
    let marks = c.in_ok-mark.ensures blocks (number_reached blocks dir from (32 * c.args.part + c.loop-place.place) c.read.result.ino number late (omega (arith, inside, low))) so.reaching in
    subst (λ n. Advances blocks dir n c.args.self.now c.mark.new.self) (let e : 32 * c.args.part + c.loop-place.place + 1 ≡ 32 * c.args.part + (c.loop-place.place + 1) = omega arith in e)
    (advance blocks dir (32 * c.args.part + c.loop-place.place) c.read.result.ino c.args.self.now c.loop-place.self c.mark.new.self number so marks)

pub returns : goal.returns
returns c blocks dir same from low reaching slots =
    advances_less blocks dir (32 * c.args.part + c.args.count) (32 * c.args.part + c.loop-place.place) c.args.self.now c.loop-place.self (let t = c.loop-place-test.false in omega (arith, t)) (c.loop-place.invariant blocks dir same from low reaching slots)
