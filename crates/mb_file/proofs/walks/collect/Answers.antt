use Rattle.std.proofs.Common.{◌≡◌, ◌+◌, ◌-◌, refl, subst, arith}
use Rattle.mb_file.proofs.Listing.{HasCollected, collected_next, collected_all, asked_among}
use Rattle.mb_file.proofs.walks.collect.Goals as goal

pub returns-in-Need-clause-lists : goal.returns-in-Need-clause-lists
returns-in-Need-clause-lists g c = (
  c.in-Need.ensures.under.0,
  asked_among (g.V.View.shown c.args.view.now) c.args.changes.now c.args.inode.now (12 - c.loop-passed.passed) c.saturating_sub-levels.result c.address-address.result c.in-Need.need.first (omega arith) c.saturating_sub-levels.ensures c.address-address.ensures c.in-Need.ensures.under.1,
)

pub loop-passed-preserved : goal.loop-passed-preserved
loop-passed-preserved g c = (
  c.in-Done.ensures.few,
  subst (λ n. HasCollected (g.V.View.shown c.args.view.now) c.args.changes.now c.args.inode.now c.push_under.new.list.items n) (let e : 12 - c.loop-passed.passed ≡ 13 - (c.loop-passed.passed + 1) = omega (arith, c.loop-passed-test.true) in e)
      (collected_next (g.V.View.shown c.args.view.now) c.args.changes.now c.args.inode.now c.loop-passed.list.items c.push_under.new.list.items (13 - c.loop-passed.passed) (12 - c.loop-passed.passed) c.saturating_sub-levels.result c.address-address.result
      (omega (arith, c.loop-passed-test.true)) c.saturating_sub-levels.ensures c.address-address.ensures c.in-Done.ensures.under c.loop-passed.invariant.1),
)

pub returns-clause-lists : goal.returns-clause-lists
returns-clause-lists g c = collected_all (g.V.View.shown c.args.view.now) c.args.changes.now c.args.inode.now c.loop-passed.list.items (13 - c.loop-passed.passed) (omega (arith, c.loop-passed-test.false)) c.loop-passed.invariant.1

pub returns-in-Some-clause-lists : goal.returns-in-Some-clause-lists
returns-in-Some-clause-lists g c = (
  c.in-Some.ensures.0,
  asked_among (g.V.View.shown c.args.view.now) c.args.changes.now c.args.inode.now c.loop-place.place (c.loop-place.place - 9) c.address.result c.in-Some.need.first (omega (arith, c.loop-place-test.true)) refl c.address.ensures c.in-Some.ensures.1,
)
