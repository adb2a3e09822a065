use Rattle.std.proofs.Common.{◌≡◌, ◌<◌, ◌∙◌, ap, sym, arith, length, refl, Some, slice_get}
use Rattle.std.proofs.Math.ListN.{length-set}
use Rattle.std.proofs.lemmas.Option.{slice_get-get_or}
use Rattle.mb_run.proofs.InOrder.{all_callers, order_after, order_may, order_mine, order_over}
use Rattle.std.proofs.Common.{subst}
use Rattle.mb_run.specs.Served.{IsRunInOrder}
use Rattle.mb_run.proofs.Timely.{timely_then}
use Rattle.mb_run.proofs.Resting.{rested_after, rested_end}
use Rattle.mb_run.proofs.runs.run_in_order.Goals as goal

pub returns-clause-done : goal.returns-clause-done
returns-clause-done g c = λ so. subst (λ n. IsRunInOrder c.args.calls.now n (g.H.Hook.test c.args.hook.now) (g.C.EventCore.sight c.loop-made.core)) c.loop-made.invariant.size (order_over _ _ _ _ _ c.loop-made-test.false c.loop-made.invariant.after)

pub run_holder-requires-clause-may : goal.run_holder-requires-clause-may
run_holder-requires-clause-may g c =
    let here : slice_get c.args.calls.now c.loop-made.made-index ≡ Some c.made-item.result = slice_get-get_or c.args.calls.now c.loop-made.made-index c.made-item.result c.loop-made-test.true ∙ ap Some (sym c.made-item.is) in
    let few : c.made-item.result.caller < length c.args.runners.now = all_callers c.args.calls.now (length c.args.runners.now) c.loop-made.made-index c.made-item.result c.requires.callers here in
    let low : c.made-item.result.caller < length c.loop-made.runners = omega (arith, few, c.loop-made.invariant.size) in
    rw c.loop-made.invariant.test (order_may _ _ _ _ _ c.loop-made.invariant.after c.made-item.result here _ low)

pub run_holder-requires-clause-mine : goal.run_holder-requires-clause-mine
run_holder-requires-clause-mine g c =
    let here : slice_get c.args.calls.now c.loop-made.made-index ≡ Some c.made-item.result = slice_get-get_or c.args.calls.now c.loop-made.made-index c.made-item.result c.loop-made-test.true ∙ ap Some (sym c.made-item.is) in
    let few : c.made-item.result.caller < length c.args.runners.now = all_callers c.args.calls.now (length c.args.runners.now) c.loop-made.made-index c.made-item.result c.requires.callers here in
    let low : c.made-item.result.caller < length c.loop-made.runners = omega (arith, few, c.loop-made.invariant.size) in
    order_mine _ _ _ _ _ c.loop-made.invariant.after c.made-item.result here _ low

pub loop-made-preserved : goal.loop-made-preserved
loop-made-preserved g c =
    let here : slice_get c.args.calls.now c.loop-made.made-index ≡ Some c.made-item.result = slice_get-get_or c.args.calls.now c.loop-made.made-index c.made-item.result c.loop-made-test.true ∙ ap Some (sym c.made-item.is) in
    let few : c.made-item.result.caller < length c.args.runners.now = all_callers c.args.calls.now (length c.args.runners.now) c.loop-made.made-index c.made-item.result c.requires.callers here in
    let low : c.made-item.result.caller < length c.loop-made.runners = omega (arith, few, c.loop-made.invariant.size) in
    record {
      after = order_after _ _ _ _ _ c.loop-made.invariant.after c.made-item.result here _ low _ _ (rw c.loop-made.invariant.test at c.if-not-run_holder.ensures.ran) c.run_holder.ensures.right;
      size = length-set c.loop-made.runners c.made-item.result.caller c.run_holder.new.runner ∙ c.loop-made.invariant.size;
      rested = λ rested. rested_after _ _ _ _ _ c.loop-made.invariant.after c.made-item.result here _ low _ _ (rw c.loop-made.invariant.test at c.if-not-run_holder.ensures.ran).nears (c.loop-made.invariant.rested rested) ((rw c.loop-made.invariant.test at c.if-not-run_holder.ensures.tallied) refl);
      config = c.if-not-run_holder.ensures.ran.nears.acts.config ∙ c.loop-made.invariant.config;
      seals = timely_then _ _ _ 0 0 c.loop-made.invariant.seals c.if-not-run_holder.ensures.ran.nears.seals;
      origin = c.run_holder.ensures.origin ∙ c.loop-made.invariant.origin;
      test = c.run_holder.ensures.test ∙ c.loop-made.invariant.test;
    }

pub returns-clause-right : goal.returns-clause-right
returns-clause-right g c = c.loop-made.invariant.after.underway.right

pub returns-clause-taken : goal.returns-clause-taken
returns-clause-taken g c = λ so rested. rested_end _ _ _ (c.loop-made.invariant.rested rested)

pub returns-clause-seals : goal.returns-clause-seals
returns-clause-seals g c = λ so. c.loop-made.invariant.seals
