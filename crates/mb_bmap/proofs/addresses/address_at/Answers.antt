use Rattle.std.proofs.Common.{◌+◌, subst, ap, slice_index, arith}
use Rattle.mb_bmap.proofs.Locating.{HasFollowed, follow_next, found_here}
use Rattle.mb_bmap.specs.Ways.{route_of}
use Rattle.mb_bmap.proofs.addresses.address_at.Goals as goal

pub loop-level-preserved : goal.loop-level-preserved
loop-level-preserved g c = follow_next (g.V.View.shown c.args.view.now) c.args.changes.now c.args.ino c.route-way.result c.loop-level.level (c.loop-level.level + 1) c.loop-level.here c.long_at-here.result _ c.in-Some-seen.index.now
    (omega arith) (ap (slice_index c.route-way.result.places) (omega (arith, c.from.ensures))) (omega (arith, c.if-here-eq0.false)) c.loop-level.invariant c.long_at-here.ensures c.in-Some-seen.ensures.found

pub returns : goal.returns
returns g c = (
  omega (arith, c.if-here-eq0-2.false),
  found_here (g.V.View.shown c.args.view.now) c.args.changes.now c.args.ino (route_of c.args.part) c.loop-level.level c.loop-level.here c.args.last
      (omega (arith, c.loop-level-test.false, c.loop-level.auto.level-end)) (subst (λ r. HasFollowed (g.V.View.shown c.args.view.now) c.args.changes.now c.args.ino r c.loop-level.level c.loop-level.here) c.route-way.ensures c.loop-level.invariant),
)
