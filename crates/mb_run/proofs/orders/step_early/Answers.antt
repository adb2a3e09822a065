use Rattle.mb_run.proofs.Calmly.{capital_outside}
use Rattle.mb_run.proofs.Starting.{inside_begun, kept_begun}
use Rattle.mb_run.proofs.orders.step_early.Goals as goal

pub returns-in-Gather-clause-begins : goal.returns-in-Gather-clause-begins
returns-in-Gather-clause-begins g c = λ goes. kept_begun _ _ _ c.gather.ensures.did.nears.acts.firsts (inside_begun _ _ _ _ _ _ c.requires.may (rw c.in-Gather.is at c.requires.ahead).0)

pub returns-in-Enter-clause-calm : goal.returns-in-Enter-clause-calm
returns-in-Enter-clause-calm g c = λ goes. capital_outside (g.H.Hook.test c.args.hook.now) (g.C.EventCore.sight c.args.core.now) (g.C.EventCore.sight c.enter.new.core) c.args.runner.now c.enter.new.runner (rw c.in-Enter.is at c.requires.ahead) (c.enter.ensures.calm goes)
