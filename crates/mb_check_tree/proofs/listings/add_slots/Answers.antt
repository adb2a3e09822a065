use Rattle.std.proofs.Common.{◌≡◌, ◌+◌, ◌*◌, ◌<◌, ap, ◌∙◌, arith}
use Rattle.mb_check_tree.specs.Listings.{first_slots}
use Rattle.mb_check_tree.proofs.SlotListings.{first_read}
use Rattle.mb_check_tree.proofs.listings.add_slots.Goals as goal

pub loop-place-init : goal.loop-place-init
loop-place-init c blocks dir part same so = so ∙ ap (first_slots blocks dir) (let e : 32 * part ≡ 32 * part + 0 = omega arith in e)

pub loop-place-preserved : goal.loop-place-preserved
loop-place-preserved c blocks dir part same so =
    let low : c.loop-place.place < 32 = (let a = c.requires in let b = c.loop-place-test.true in omega (arith, a, b)) in
    first_read blocks dir part c.loop-place.place c.args.block.now c.read-entry.result c.loop-place.slots c.push.new.self low same c.read-entry.ensures (c.loop-place.invariant blocks dir part same so) c.in_ok-push.ensures.ok
