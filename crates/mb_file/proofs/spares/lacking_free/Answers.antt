use Rattle.std.proofs.Common.{ap, arith, ◌∙◌}
use Rattle.mb_file.proofs.FreeLooking.{asked_free, followed_same, followed_next}
use Rattle.mb_file.proofs.spares.lacking_free.Goals as goal
use Rattle.mb_file.proofs.spares.lacking_free.Goals.{then-left-eq0-2, else-left-eq0-2}

pub returns-in_default-seen : goal.returns-in_default-seen
returns-in_default-seen g c = asked_free (g.V.View.shown c.args.view.now) c.args.changes.now c.loop-passed.list.now c.loop-passed.at c.loop-passed.left c.long_at-block.result c.loop-passed.invariant.1
    (omega (arith, c.if-left-eq0.false)) (omega (arith, c.if-block-eq0.false)) c.long_at-block.ensures c.run.result c.run.ensures.need c.run.ensures.run.begins

pub loop-passed-preserved : goal.loop-passed-preserved
loop-passed-preserved g c = elim c.if-left-eq0-2.branch [
  | then-left-eq0-2 w ↦ followed_next (g.V.View.shown c.args.view.now) c.args.changes.now c.loop-passed.list.now c.loop-passed.at c.loop-passed.left c.long_at-block.result c.loop-passed.invariant.1
      (omega (arith, c.if-left-eq0.false)) (omega (arith, c.if-block-eq0.false)) c.long_at-block.ensures c.if-left-eq0-2.list.now c.in-Some-seen.found.now c.if-left-eq0-2.at c.if-left-eq0-2.left
      (ap (λ b. b.now) w.list-is) w.at-is (w.left-is ∙ w.word_at-left-then-left-eq0-2.ensures) (omega (arith, w.if-left-eq0-2.true)) c.in-Some-seen.ensures.found
  | else-left-eq0-2 w ↦ followed_same (g.V.View.shown c.args.view.now) c.args.changes.now c.loop-passed.list.now c.loop-passed.at c.loop-passed.left c.long_at-block.result c.loop-passed.invariant.1
      (omega (arith, c.if-left-eq0.false)) (omega (arith, c.if-block-eq0.false)) c.long_at-block.ensures c.if-left-eq0-2.list.now c.if-left-eq0-2.at c.if-left-eq0-2.left
      (ap (λ b. b.now) w.list-is) w.at-is w.left-is (omega (arith, w.if-left-eq0-2.false)) c.loop-passed.invariant.0
]
