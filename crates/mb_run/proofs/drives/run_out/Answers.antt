use Rattle.std.proofs.Common.{◌≡◌, ◌<◌, ◌+◌, ◌∙◌, ap, arith, length, refl, Some, slice_get, sym}
use Rattle.std.proofs.Math.ListN.{length-set}
use Rattle.std.proofs.lemmas.Option.{slice_get-get_or}
use Rattle.mb_run.proofs.Completing.{count_fits, counted_next, out_reached}
use Rattle.mb_run.proofs.InOrder.{all_callers}
use Rattle.mb_run.proofs.Moving.{whole_then}
use Rattle.mb_run.proofs.drives.run_out.Goals as goal

pub overflow_add-count : goal.overflow_add-count
overflow_add-count g c =
    let here : slice_get c.args.calls.now c.loop-made.made-index ≡ Some c.made-item.result = slice_get-get_or c.args.calls.now c.loop-made.made-index c.made-item.result c.loop-made-test.true ∙ ap Some (sym c.made-item.is) in
    let few : c.made-item.result.caller < length c.args.runners.now = all_callers c.args.calls.now (length c.args.runners.now) c.loop-made.made-index c.made-item.result c.requires.callers here in
    let low : c.made-item.result.caller < length c.loop-made.runners = omega (arith, few, c.loop-made.invariant.size) in
    let eight : c.made-item.result.caller < 8 = omega (arith, few, c.requires.few) in
    omega (arith, count_fits c.args.calls.now c.loop-made.made-index c.made-item.result here _ (c.loop-made.invariant.counted c.made-item.result.caller eight) c.requires.small)

pub loop-made-preserved : goal.loop-made-preserved
loop-made-preserved g c =
    let here : slice_get c.args.calls.now c.loop-made.made-index ≡ Some c.made-item.result = slice_get-get_or c.args.calls.now c.loop-made.made-index c.made-item.result c.loop-made-test.true ∙ ap Some (sym c.made-item.is) in
    let few : c.made-item.result.caller < length c.args.runners.now = all_callers c.args.calls.now (length c.args.runners.now) c.loop-made.made-index c.made-item.result c.requires.callers here in
    let low : c.made-item.result.caller < length c.loop-made.runners = omega (arith, few, c.loop-made.invariant.size) in
    let eight : c.made-item.result.caller < 8 = omega (arith, few, c.requires.few) in
    let whole = rw c.loop-made.invariant.test at c.if-not-run_up_to.ensures.whole refl in
    record {
      whole = whole_then _ _ 0 0 _ _ _ _ _ _ c.loop-made.invariant.whole whole;
      out = out_reached c.args.calls.now c.loop-made.made-index c.made-item.result here _ _ _ low whole.grows c.run_up_to.ensures.length (ap (λ n. n + 1) (c.loop-made.invariant.counted c.made-item.result.caller eight)) (c.if-not-run_up_to.ensures.reached refl) c.loop-made.invariant.out;
      counted = counted_next c.args.calls.now c.loop-made.made-index c.made-item.result here _ _ c.loop-made.invariant.eight eight refl c.loop-made.invariant.counted;
      eight = length-set c.loop-made.passed c.made-item.result.caller _ ∙ c.loop-made.invariant.eight;
      size = c.run_up_to.ensures.length ∙ c.loop-made.invariant.size;
      origin = c.run_up_to.ensures.origin ∙ c.loop-made.invariant.origin;
      test = c.run_up_to.ensures.test ∙ c.loop-made.invariant.test;
    }
