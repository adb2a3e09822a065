use Rattle.std.proofs.Common.{◌∙◌, arith}
use Rattle.mb_run.proofs.Ending.{keeps_then}
use Rattle.mb_run.proofs.Lengthening.{calm_ends, forward_then}
use Rattle.mb_run.proofs.settles.recover_calmly.Goals as goal

pub returns-in-Some-clause-forward : goal.returns-in-Some-clause-forward
returns-in-Some-clause-forward g c = calm_ends _ _ _ c.steps.invariant.forward c.in-Some.ensures.forward

pub steps-preserved : goal.steps-preserved
steps-preserved g c = record {
  keeps = keeps_then _ _ _ c.steps.invariant.keeps c.calm_step.ensures.keeps;
  forward = forward_then _ _ _ c.steps.invariant.forward c.in_default.ensures.forward;
  seals = (let low = c.steps.invariant.seals in let fewer = c.calm_step.ensures.seals in omega (arith, low, fewer));
  later = (let low = c.steps.invariant.later in let more = c.calm_step.ensures.later in omega (arith, low, more));
  origin = c.calm_step.ensures.origin ∙ c.steps.invariant.origin;
  right = c.calm_step.ensures.right;
}

pub returns-in-Some-clause-seals : goal.returns-in-Some-clause-seals
returns-in-Some-clause-seals g c = let low = c.steps.invariant.seals in let fewer = c.calm_step.ensures.seals in omega (arith, low, fewer)
