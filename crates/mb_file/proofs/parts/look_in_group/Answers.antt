use Rattle.std.proofs.Common.{◌-◌, ap, arith}
use Rattle.mb_file.proofs.Looking.{looked_under, asked_above}
use Rattle.mb_file.proofs.parts.look_in_group.Goals as goal

pub returns-else-index-ge262144 : goal.returns-else-index-ge262144
returns-else-index-ge262144 g c = looked_under (g.V.View.shown c.args.view.now) c.args.changes.now c.args.ino c.args.part (c.route-depth.result.depth - 1) (omega (arith, c.if-part-ge2113674.false))
    (let e = ap (λ r. r.depth) c.route-depth.ensures in omega (arith, e, c.if-depth-eq0.false)) c.in-At.index c.look_under.result c.in-At.ensures c.look_under.ensures

pub returns-in-Need : goal.returns-in-Need
returns-in-Need g c = asked_above (g.V.View.shown c.args.view.now) c.args.changes.now c.args.ino c.args.part (c.route-depth.result.depth - 1) (omega (arith, c.if-part-ge2113674.false))
    (let e = ap (λ r. r.depth) c.route-depth.ensures in omega (arith, e, c.if-depth-eq0.false)) c.in-Need.need c.in-Need.ensures
