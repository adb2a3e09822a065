use Rattle.std.proofs.Common.{◌-◌, sym, subst, arith}
use Rattle.std.specs.List.{Contains}
use Rattle.mb_tree.specs.Blocks.{pointers}
use Rattle.mb_tree.specs.Views.{over}
use Rattle.mb_kinds.specs.Changed.{changed}
use Rattle.mb_alloc.proofs.Within.{lacks}
use Rattle.mb_file.specs.Walking.{under_address}
use Rattle.mb_file.proofs.Listing.{itself_under, asked_under}
use Rattle.mb_file.proofs.walks.+lacking_index.Goals as goal

pub returns-in_default : goal.returns-in_default
returns-in_default g t c = (
  c.one.ensures.need (g.V.View.shown c.args.view.now) (lacks (changed c.args.changes.now c.args.address) (g.V.View.shown c.args.view.now c.args.address) c.in_default.ensures.missing),
  λ blocks part. subst (Contains (under_address (pointers (over blocks (changed c.args.changes.now))) c.args.levels c.args.address)) (sym c.one.ensures.first) (itself_under (pointers (over blocks (changed c.args.changes.now))) c.args.levels c.args.address (omega (arith, c.if-address-eq0.false))),
)

pub returns-then-levels-gt2 : goal.returns-then-levels-gt2
returns-then-levels-gt2 g t c = (
  c.in-Some-lacking_index.ensures.0,
  λ blocks part. subst (λ n. Contains (under_address (pointers (over blocks (changed c.args.changes.now))) n c.args.address) c.in-Some-lacking_index.need.first) (omega (arith, c.if-levels-eq0.false))
      (asked_under (g.V.View.shown c.args.view.now) c.args.changes.now c.args.address (omega (arith, c.if-address-eq0.false)) c.in-Some.index.now c.in-Some.ensures.found (c.args.levels - 1) (127 - c.loop-passed.passed) c.long_at-child.result c.in-Some-lacking_index.need.first (omega arith)
      c.long_at-child.ensures c.in-Some-lacking_index.ensures.1 blocks part),
)

pub returns-in-Some-lacking_index : goal.returns-in-Some-lacking_index
returns-in-Some-lacking_index g t c = (
  c.with.ensures.need (g.V.View.shown c.args.view.now) c.in-Some-lacking_index.ensures.0,
  λ blocks part. subst (Contains (under_address (pointers (over blocks (changed c.args.changes.now))) c.args.levels c.args.address)) (sym c.with.ensures.first)
      (subst (λ n. Contains (under_address (pointers (over blocks (changed c.args.changes.now))) n c.args.address) c.in-Some-lacking_index.need.first) (omega (arith, c.if-levels-eq0.false))
      (asked_under (g.V.View.shown c.args.view.now) c.args.changes.now c.args.address (omega (arith, c.if-address-eq0.false)) c.in-Some.index.now c.in-Some.ensures.found (c.args.levels - 1) (127 - c.loop-passed.passed) c.long_at-child.result c.in-Some-lacking_index.need.first (omega arith)
      c.long_at-child.ensures c.in-Some-lacking_index.ensures.1 blocks part)),
)
