use Rattle.std.proofs.Common.{◌≢◌, replicate, subst, arith}
use Rattle.std.proofs.lemmas.Option.{slice_get_within}
use Rattle.mb_iface.specs.Places.{StandsAt}
use Rattle.mb_iface.proofs.Standing.{still_stands, edited_at_place}
use Rattle.mb_alloc.specs.Taking.{IsSuperPlace}
use Rattle.mb_alloc.proofs.takes.zero_and_edit.Goals as goal

pub patch_at-requires-clause-place : goal.patch_at-requires-clause-place
patch_at-requires-clause-place g c =
    let apart : 1 ≢ c.args.block = omega (arith, c.if-block-eq1.false) in
    let stood : StandsAt c.args.changes.now c.in-Some.place 1 = subst (λ o. IsSuperPlace c.args.changes.now o) c.in-Some.is c.requires.place in
    slice_get_within c.put_zeros.new.self c.in-Some.place (1, stood.bytes) (still_stands c.args.changes.now c.put_zeros.new.self c.args.block (replicate 512 0) c.in-Some.place 1 apart stood c.in-Ok.ensures.list)

pub returns-in-Ok : goal.returns-in-Ok
returns-in-Ok g c =
    let apart : 1 ≢ c.args.block = omega (arith, c.if-block-eq1.false) in
    let stood : StandsAt c.args.changes.now c.in-Some.place 1 = subst (λ o. IsSuperPlace c.args.changes.now o) c.in-Some.is c.requires.place in
    edited_at_place (g.V.View.shown c.args.view.now) c.args.changes.now c.put_zeros.new.self c.patch_at.new.self c.args.block (replicate 512 0) c.in-Some.place 1 6 c.args.list.now apart stood c.in-Ok.ensures.list c.in-Ok.ensures.each c.patch_at.ensures
