use Rattle.std.proofs.Common.{ap}
use Rattle.mb_bmap.proofs.Locating.{located_part}
use Rattle.mb_bmap.proofs.addresses.address.Goals as goal

pub returns : goal.returns
returns g c = located_part (g.V.View.shown c.args.view.now) c.args.changes.now c.args.ino c.args.part c.route.result.depth c.address_at.result c.requires (ap (λ r. r.depth) c.route.ensures) c.address_at.ensures
