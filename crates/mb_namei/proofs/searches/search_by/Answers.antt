use Rattle.std.proofs.Common.{◌≡◌, ◌+◌, ◌/◌, subst, refl, arith}
use Rattle.mb_namei.proofs.Searching.{HasPassed, none_passed, pass_next, ends_empty, ends_full, ends_found}
use Rattle.mb_namei.proofs.searches.search_by.Goals as goal

pub loop-part-init : goal.loop-part-init
loop-part-init g c = none_passed (g.V.View.shown c.args.view.now) c.args.changes.now c.args.dir _ 0 c.args.name.now refl

pub returns-in-Found : goal.returns-in-Found
returns-in-Found g c =
    (let e = c.in-Found.ensures in
    ends_found (g.V.View.shown c.args.view.now) c.args.changes.now c.args.dir _ c.args.size c.min-parts.result refl (omega (arith, c.min-parts.ensures, c.div_ceil.ensures)) c.loop-part.part c.loop-part.empty c.in-Found.at c.in-Found.ino c.args.name.now
    c.loop-part.invariant e.1)

pub loop-part-preserved : goal.loop-part-preserved
loop-part-preserved g c =
    (let e = c.in-Unnamed.ensures in
    pass_next (g.V.View.shown c.args.view.now) c.args.changes.now c.args.dir _ c.loop-part.part (c.loop-part.part + 1) c.loop-part.empty c.in-Unnamed.first c.args.name.now refl e.0 c.loop-part.invariant e.1)

pub returns-then-empty-count : goal.returns-then-empty-count
returns-then-empty-count g c =
    let same : c.loop-part.part ≡ c.min-parts.result = omega (arith, c.loop-part-test.false, c.loop-part.auto.part-end) in
    ends_empty (g.V.View.shown c.args.view.now) c.args.changes.now c.args.dir _ c.args.size c.min-parts.result refl (omega (arith, c.min-parts.ensures, c.div_ceil.ensures)) c.loop-part.empty c.args.name.now
    (subst (λ n. HasPassed (g.V.View.shown c.args.view.now) c.args.changes.now c.args.dir n (c.args.size / 16) c.loop-part.empty c.args.name.now) same c.loop-part.invariant) c.if-empty-count.true

pub returns : goal.returns
returns g c =
    let same : c.loop-part.part ≡ c.min-parts.result = omega (arith, c.loop-part-test.false, c.loop-part.auto.part-end) in
    ends_full (g.V.View.shown c.args.view.now) c.args.changes.now c.args.dir _ c.args.size c.min-parts.result refl (omega (arith, c.min-parts.ensures, c.div_ceil.ensures)) c.loop-part.empty c.args.name.now
    (subst (λ n. HasPassed (g.V.View.shown c.args.view.now) c.args.changes.now c.args.dir n (c.args.size / 16) c.loop-part.empty c.args.name.now) same c.loop-part.invariant) c.if-empty-count.false
