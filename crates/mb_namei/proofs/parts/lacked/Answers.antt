use Rattle.mb_namei.proofs.parts.lacked.Goals as goal

pub returns-clause-need : goal.returns-clause-need
returns-clause-need g c = c.with.ensures.need (g.V.View.shown c.args.view.now) c.run-run.ensures.need
