use Rattle.std.proofs.Common.{◌≡◌, ◌+◌, ◌-◌, inl, sym, subst, arith}
use Rattle.std.specs.List.{Contains}
use Rattle.mb_tree.specs.Blocks.{pointers}
use Rattle.mb_tree.specs.Views.{over}
use Rattle.mb_kinds.specs.Changed.{changed}
use Rattle.mb_alloc.proofs.Within.{lacks}
use Rattle.mb_file.specs.Walking.{under_address}
use Rattle.mb_file.proofs.Listing.{HasPushed, not_listable, pushed_none, pushed_alone, itself_under, pushed_first, pushed_next, pushed_parts, asked_under, pushed_all}
use Rattle.mb_file.proofs.walks.+push_under.Goals as goal

pub returns-then-address-ge262144-clause-under : goal.returns-then-address-ge262144-clause-under
returns-then-address-ge262144-clause-under g t c = λ blocks part listable.
    absurd (not_listable (g.V.View.shown c.args.view.now) c.args.changes.now c.args.address (omega (arith, c.if-address-eq0.false)) (pointers (over blocks (changed c.args.changes.now))) c.args.levels c.args.list.now.items (inl c.if-address-ge262144.true) listable)

pub returns-then-levels-eq0-clause-under : goal.returns-then-levels-eq0-clause-under
returns-then-levels-eq0-clause-under g t c = pushed_alone (g.V.View.shown c.args.view.now) c.args.changes.now c.args.address (omega (arith, c.if-address-eq0.false)) c.args.levels c.args.list.now.items c.push.new.self.items c.if-levels-eq0.true c.in-Ok.ensures.items

pub returns-in_default-clause-under : goal.returns-in_default-clause-under
returns-in_default-clause-under g t c = (
  c.one.ensures.need (g.V.View.shown c.args.view.now) (lacks (changed c.args.changes.now c.args.address) (g.V.View.shown c.args.view.now c.args.address) c.in_default.ensures.missing),
  λ blocks part. subst (Contains (under_address (pointers (over blocks (changed c.args.changes.now))) c.args.levels c.args.address)) (sym c.one.ensures.first) (itself_under (pointers (over blocks (changed c.args.changes.now))) c.args.levels c.args.address (omega (arith, c.if-address-eq0.false))),
)

pub loop-passed-init : goal.loop-passed-init
loop-passed-init g t c = (
  omega (arith, c.if-len-ge262144.false, c.len.ensures, c.in-Ok.ensures.len),
  pushed_first (g.V.View.shown c.args.view.now) c.args.changes.now c.args.address (omega (arith, c.if-address-eq0.false)) (c.args.levels - 1) c.args.list.now.items c.push.new.self.items c.in-Ok.ensures.items,
)

pub returns-in-Ok-push_parts-clause-under : goal.returns-in-Ok-push_parts-clause-under
returns-in-Ok-push_parts-clause-under g t c =
    pushed_parts (g.V.View.shown c.args.view.now) c.args.changes.now c.args.address (omega (arith, c.if-address-eq0.false)) c.in-Some.index.now c.in-Some.ensures.found c.args.levels c.args.list.now.items c.push.new.self.items c.push_parts.new.list.items
    c.if-levels-eq1.true c.in-Ok.ensures.items c.in-Ok-push_parts.ensures.parts

pub returns-in-Need-clause-under : goal.returns-in-Need-clause-under
returns-in-Need-clause-under g t c = (
  c.in-Need.ensures.under.0,
  λ blocks part. subst (λ n. Contains (under_address (pointers (over blocks (changed c.args.changes.now))) n c.args.address) c.in-Need.need.first) (omega (arith, c.if-levels-eq0.false))
      (asked_under (g.V.View.shown c.args.view.now) c.args.changes.now c.args.address (omega (arith, c.if-address-eq0.false)) c.in-Some.index.now c.in-Some.ensures.found (c.args.levels - 1) (127 - c.loop-passed.passed) c.long_at-child.result c.in-Need.need.first (omega arith)
      c.long_at-child.ensures c.in-Need.ensures.under.1 blocks part),
)

pub loop-passed-preserved : goal.loop-passed-preserved
loop-passed-preserved g t c = (
  c.in-Done.ensures.few,
  subst (λ n. HasPushed (g.V.View.shown c.args.view.now) c.args.changes.now c.args.address (c.args.levels - 1) c.args.list.now.items c.push_under.new.list.items n) (let e : 127 - c.loop-passed.passed ≡ 128 - (c.loop-passed.passed + 1) = omega (arith, c.loop-passed-test.true) in e)
      (pushed_next (g.V.View.shown c.args.view.now) c.args.changes.now c.args.address (omega (arith, c.if-address-eq0.false)) c.in-Some.index.now c.in-Some.ensures.found (c.args.levels - 1) c.args.list.now.items c.loop-passed.list.items c.push_under.new.list.items
      (128 - c.loop-passed.passed) (127 - c.loop-passed.passed) c.long_at-child.result (omega (arith, c.loop-passed-test.true)) c.long_at-child.ensures c.in-Done.ensures.under c.loop-passed.invariant.1),
)

pub returns-clause-under : goal.returns-clause-under
returns-clause-under g t c = pushed_all (g.V.View.shown c.args.view.now) c.args.changes.now c.args.address (omega (arith, c.if-address-eq0.false)) c.args.levels (c.args.levels - 1) c.args.list.now.items c.loop-passed.list.items (128 - c.loop-passed.passed)
    (omega (arith, c.if-levels-eq0.false)) (omega (arith, c.loop-passed-test.false)) c.loop-passed.invariant.1

pub loop-passed-preserved-then-child-eq0 : goal.loop-passed-preserved-then-child-eq0
loop-passed-preserved-then-child-eq0 g t c = (
  c.loop-passed.invariant.0,
  subst (λ n. HasPushed (g.V.View.shown c.args.view.now) c.args.changes.now c.args.address (c.args.levels - 1) c.args.list.now.items c.loop-passed.list.items n) (let e : 127 - c.loop-passed.passed ≡ 128 - (c.loop-passed.passed + 1) = omega (arith, c.loop-passed-test.true) in e)
      (pushed_next (g.V.View.shown c.args.view.now) c.args.changes.now c.args.address (omega (arith, c.if-address-eq0.false)) c.in-Some.index.now c.in-Some.ensures.found (c.args.levels - 1) c.args.list.now.items c.loop-passed.list.items c.loop-passed.list.items
      (128 - c.loop-passed.passed) (127 - c.loop-passed.passed) c.long_at-child.result (omega (arith, c.loop-passed-test.true)) c.long_at-child.ensures
      (pushed_none (g.V.View.shown c.args.view.now) c.args.changes.now c.long_at-child.result (c.args.levels - 1) c.loop-passed.list.items c.if-child-eq0.true) c.loop-passed.invariant.1),
)
