use Rattle.std.proofs.Common.{◌-◌, ◌<◌, sym, subst, ◌∙◌, arith}
use Rattle.std.specs.List.{Contains}
use Rattle.mb_tree.specs.Blocks.{pointers}
use Rattle.mb_tree.specs.Views.{over}
use Rattle.mb_kinds.specs.Changed.{changed}
use Rattle.mb_file.specs.Walking.{LacksBlock, LacksIndex, under_address}
use Rattle.mb_file.proofs.Listing.{itself_under, asked_under}
use Rattle.mb_file.proofs.walks.+lacking_under.Goals as goal
use Rattle.mb_file.proofs.walks.+lacking_under.Goals.{then-levels-eq1, else-levels-eq1}

pub returns-in-Some-need : goal.returns-in-Some-need
returns-in-Some-need g t c =
    let shown = g.V.View.shown c.args.view.now in
    let changes = c.args.changes.now in
    let need = c.in-Some-need.need in
    let child = c.long_at-child.result in
    elim c.if-levels-eq1.branch [
      | then-levels-eq1 w ↦
          (let its = subst (LacksBlock shown child) (sym w.need-is ∙ c.in-Some-need.is) w.lacking_part-need.ensures in
          let above = its.0.above in
          let some : 0 < child = omega (arith, above, its.1) in (
            its.0,
            λ blocks part. subst (λ n. Contains (under_address (pointers (over blocks (changed changes))) n c.args.address) need.first) (sym w.if-levels-eq1.true)
                (asked_under shown changes c.args.address (omega (arith, c.if-address-eq0.false)) c.in-Some.index.now c.in-Some.ensures.found 0 c.loop-place.place child need.first c.loop-place-test.true c.long_at-child.ensures
                (λ blocks _. subst (Contains (under_address (pointers (over blocks (changed changes))) 0 child)) (sym its.1) (itself_under (pointers (over blocks (changed changes))) 0 child some)) blocks part),
          ))
      | else-levels-eq1 w ↦
          (let its = subst (LacksIndex shown changes child (c.args.levels - 1)) (sym w.need-is ∙ c.in-Some-need.is) w.lacking_under-need.ensures in (
            its.0,
            λ blocks part. subst (λ n. Contains (under_address (pointers (over blocks (changed changes))) n c.args.address) need.first) (omega (arith, c.requires))
                (asked_under shown changes c.args.address (omega (arith, c.if-address-eq0.false)) c.in-Some.index.now c.in-Some.ensures.found (c.args.levels - 1) c.loop-place.place child need.first c.loop-place-test.true c.long_at-child.ensures
                its.1 blocks part),
          ))
    ]
