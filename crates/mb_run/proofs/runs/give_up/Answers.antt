use Rattle.std.proofs.Common.{arith}
use Rattle.mb_run.proofs.GivingUp.{given_waits}
use Rattle.mb_run.proofs.runs.give_up.Goals as goal

pub quit-requires-clause-waits : goal.quit-requires-clause-waits
quit-requires-clause-waits g c = given_waits _ _ c.requires (omega (arith, c.if-begun-runner.true, c.begun.ensures))
