-- Passes may move where their value may.
use denote.Param.Send.{sendable}
use Rattle.std.proofs.Crossing.{crosses}
use Rattle.mb_turn.proofs.Sending.{pass_send}
use Rattle.mb_turn.proofs.tests.run_each.Goals as goal

pub each-requires-send-A : goal.each-requires-send-A
each-requires-send-A g c κs within = search (sendable, crosses, pass_send) depth 60
