use Rattle.std.proofs.Common.{inr}
use Rattle.mb_run.proofs.drives.run_up_to.Goals as goal

pub returns-clause-reached : goal.returns-clause-reached
returns-clause-reached g c = λ so. inr (c.run_call.ensures.answered so)
