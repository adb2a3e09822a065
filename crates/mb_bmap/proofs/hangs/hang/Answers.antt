use Rattle.std.proofs.Common.{◌≡◌, ◌≤◌, ◌+◌, ◌-◌, ◌*◌, nat_lt, slice_index, sym, subst, refl, ap, arith}
use Rattle.mb_bmap.specs.Hanging.{HangsAt, SetsBytes}
use Rattle.mb_bmap.specs.Locating.{address_on, OnWay}
use Rattle.mb_bmap.proofs.Hanging.{hung_first, hung_next}
use Rattle.mb_bmap.proofs.Walking.{IsRoute, route_is}
use Rattle.mb_bmap.proofs.hangs.hang.Goals as goal

pub returns-then-level-eq0 : goal.returns-then-level-eq0
returns-then-level-eq0 g c =
    let shown = g.V.View.shown c.args.view.now in
    let old = c.args.changes.now in
    let new = c.set_bytes.new.changes in
    let way = c.route-way.result in
    let sets = subst (λ n. SetsBytes shown old new c.inode_block.result (64 * c.inode_place.result + 12 + 3 * slice_index way.places 0) c.put_addr.new.b (nat_lt n way.depth) c.args.block c.set_bytes.result) c.if-level-eq0.true c.set_bytes.ensures in
    let hung = hung_first shown old new c.args.ino c.args.part way (subst (IsRoute c.args.part) (sym c.route-way.ensures) (route_is c.args.part c.requires.part)) c.args.block c.requires.block
    c.inode_block.result c.inode_place.result _ c.put_addr.new.b c.set_bytes.result c.inode_block.ensures c.inode_place.ensures refl c.put_addr.ensures sets in
    subst (λ r. HangsAt shown old new c.args.ino r c.args.level c.args.block c.set_bytes.result) c.route-way.ensures
    (subst (λ n. HangsAt shown old new c.args.ino way n c.args.block c.set_bytes.result) (sym c.if-level-eq0.true) hung)

pub returns-else-index-ge262144 : goal.returns-else-index-ge262144
returns-else-index-ge262144 g c =
    let shown = g.V.View.shown c.args.view.now in
    let old = c.args.changes.now in
    let new = c.set_bytes-in-At.new.changes in
    let way = c.route-way.result in
    let above = c.args.level - 1 in
    let found = subst (λ r. OnWay shown old c.args.ino r (λ blocks. address_on blocks c.args.ino r above ≡ c.in-At.index)) (sym c.route-way.ensures) c.in-At.ensures.1 in
    let hung = hung_next shown old new c.args.ino c.args.part way (subst (IsRoute c.args.part) (sym c.route-way.ensures) (route_is c.args.part c.requires.part)) c.args.block c.requires.block
    above c.args.level c.in-At.index _ _ c.put_long.new.b c.set_bytes-in-At.result (omega (arith, c.if-level-eq0.false)) (subst (λ r. c.args.level ≤ r.depth) (sym c.route-way.ensures) c.requires.level)
    (ap (slice_index way.places) c.from.ensures) refl c.put_long.ensures found c.set_bytes-in-At.ensures in
    subst (λ r. HangsAt shown old new c.args.ino r c.args.level c.args.block c.set_bytes-in-At.result) c.route-way.ensures hung
