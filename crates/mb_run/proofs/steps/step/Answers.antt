use Rattle.mb_run.proofs.Starting.{inside_begun, kept_begun, logged_begun}
use Rattle.mb_run.proofs.steps.step.Goals as goal
use Rattle.mb_run.proofs.Calmly.{logged_calm}
use Rattle.std.proofs.Common.{false}

pub returns-in-Inside-clause-begins : goal.returns-in-Inside-clause-begins
returns-in-Inside-clause-begins g c = λ goes. kept_begun _ _ _ c.go_on.ensures.did.nears.acts.firsts (inside_begun _ _ _ _ _ _ c.requires.may c.in-Inside.is)

pub returns-in-Logged-clause-begins : goal.returns-in-Logged-clause-begins
returns-in-Logged-clause-begins g c = λ goes. kept_begun _ _ _ c.leave.ensures.did.nears.acts.firsts (logged_begun _ _ _ _ _ _ c.requires.may c.in-Logged.is)

pub returns-in-Logged-clause-calm : goal.returns-in-Logged-clause-calm
returns-in-Logged-clause-calm g c = λ goes. logged_calm false (g.H.Hook.test c.args.hook.now) (g.C.EventCore.sight c.args.core.now) _ c.args.runner.now _ _ c.in-Logged.is
