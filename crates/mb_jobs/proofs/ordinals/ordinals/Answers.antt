use Rattle.std.proofs.Common.{arith}
use Rattle.mb_jobs.proofs.CallPlaces.{Placed-more, Placed-start}
use Rattle.mb_jobs.proofs.ordinals.ordinals.Goals as goal

pub calls-init : goal.calls-init
calls-init c = rw c.in_ok-places.ensures.items (Placed-start c.args.calls.now)

pub calls-preserved : goal.calls-preserved
calls-preserved c =
    rw (c.in_ok-push.ensures.items, c.from-slot.ensures)
    (Placed-more c.args.calls.now c.calls.counts c.calls.places.items c.calls.call-index c.call-item.result c.calls-test.true c.call-item.is (omega arith) c.calls.invariant)
