use Rattle.std.proofs.Common.{◌-◌, refl, sym, subst, ◌∙◌, arith}
use Rattle.mb_file.specs.Walking.{LacksBlock, LacksIndex}
use Rattle.mb_file.proofs.Listing.{own_among, asked_among}
use Rattle.mb_file.proofs.frees.lacking_parts.Goals as goal
use Rattle.mb_file.proofs.frees.lacking_parts.Goals.{then-place-lt10, else-place-lt10}

pub returns-in-Some : goal.returns-in-Some
returns-in-Some g c =
    let shown = g.V.View.shown c.args.view.now in
    let changes = c.args.changes.now in
    let place = c.loop-place.place in
    let address = c.address-address.result in
    let need = c.in-Some.need in
    elim c.if-place-lt10.branch [
      | then-place-lt10 w ↦
          (let its = subst (LacksBlock shown address) (sym w.need-is ∙ c.in-Some.is) w.lacking_part-need.ensures in
          let above = its.0.above in (
            its.0,
            own_among shown changes c.args.inode.now place address need.first w.if-place-lt10.true (omega (arith, above, its.1)) c.address-address.ensures its.1,
          ))
      | else-place-lt10 w ↦
          (let its = subst (LacksIndex shown changes address (place - 9)) (sym w.need-is ∙ c.in-Some.is) w.lacking_under-need.ensures in (
            its.0,
            asked_among shown changes c.args.inode.now place (place - 9) address need.first c.loop-place-test.true refl c.address-address.ensures its.1,
          ))
    ]
