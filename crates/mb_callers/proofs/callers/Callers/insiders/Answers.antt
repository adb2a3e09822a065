use Rattle.std.proofs.Common.{◌+◌, ◌∙◌, ap, arith}
use Rattle.mb_core_spec.specs.Callers.{one_if}
use Rattle.mb_core_spec.specs.State.{CallerState}
use Rattle.mb_callers.proofs.Sums.{summed_more}
use Rattle.mb_callers.proofs.callers.Callers.insiders.Goals as goal

pub loop-at-preserved : goal.loop-at-preserved
loop-at-preserved c = record {
  sum = summed_more (λ (mine : CallerState). one_if mine.inside) c.loop-at.count (c.loop-at.count + c.one_if-count.result) _ c.args.self.now c.loop-at.at c.at.result.now c.loop-at.invariant.sum c.at.ensures
      (ap (λ n. c.loop-at.count + n) (c.one_if-count.ensures.count ∙ ap one_if c.is_inside.ensures));
  small = omega (arith, c.one_if-count.ensures.few, c.loop-at.invariant.small);
  whole = c.loop-at.invariant.whole;
}
