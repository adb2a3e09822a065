use Rattle.mb_tree.proofs.Descriptors.{in_range}
use Rattle.mb_tree.proofs.machines.Machine.serve.Goals as goal

pub change_session-requires-clause-ready : goal.change_session-requires-clause-ready
change_session-requires-clause-ready c = in_range c.in-Some.seat.now c.in_ok-plan.plan.session c.in_ok-plan.ensures.ready.0
