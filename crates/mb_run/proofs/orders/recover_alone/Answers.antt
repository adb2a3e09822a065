use Rattle.mb_run.proofs.Quiet.{quiet_alone}
use Rattle.mb_run.proofs.Timely.{timely_alone}
use Rattle.mb_run.proofs.orders.recover_alone.Goals as goal

pub returns-in-NoMemory-clause-quiet : goal.returns-in-NoMemory-clause-quiet
returns-in-NoMemory-clause-quiet g c = quiet_alone (g.H.Hook.test c.args.hook.now) _ _ _ c.recover_step.result c.recover_step.ensures.on c.recover_step.ensures.steps

pub returns-in_default : goal.returns-in_default
returns-in_default g c = record {
  quiet = quiet_alone (g.H.Hook.test c.args.hook.now) _ _ _ c.recover_step.result c.recover_step.ensures.on c.recover_step.ensures.steps;
  seals = timely_alone (g.H.Hook.test c.args.hook.now) _ _ c.recover_step.new.by c.recover_step.result c.recover_step.ensures.steps;
  origin = c.recover_step.ensures.origin;
  test = c.recover_step.ensures.test;
  right = c.recover_step.ensures.right;
}

pub returns-in-NoMemory-clause-seals : goal.returns-in-NoMemory-clause-seals
returns-in-NoMemory-clause-seals g c = timely_alone (g.H.Hook.test c.args.hook.now) _ _ c.recover_step.new.by c.recover_step.result c.recover_step.ensures.steps
