use Rattle.std.proofs.Common.{◌≡◌, ◌/◌, subst, refl, arith}
use Rattle.mb_namei.proofs.Searching.{HasCounted, none_counted, ends_counted}
use Rattle.mb_namei.proofs.searches.count_used.Goals as goal

pub loop-part-init : goal.loop-part-init
loop-part-init g c = none_counted (g.V.View.shown c.args.view.now) c.args.changes.now c.args.dir _ 0 refl

pub returns : goal.returns
returns g c =
    let same : c.loop-part.part ≡ c.min-parts.result = omega (arith, c.loop-part-test.false, c.loop-part.auto.part-end) in
    ends_counted (g.V.View.shown c.args.view.now) c.args.changes.now c.args.dir _ c.args.size c.min-parts.result refl (omega (arith, c.min-parts.ensures, c.div_ceil.ensures)) c.loop-part.used
    (subst (λ n. HasCounted (g.V.View.shown c.args.view.now) c.args.changes.now c.args.dir n (c.args.size / 16) c.loop-part.used) same c.loop-part.invariant)
