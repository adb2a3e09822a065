use Rattle.std.proofs.Common.{subst}
use Rattle.mb_alloc.specs.declared.frees.Hung.TheVariants as hung
use Rattle.mb_file.specs.Clearing.{Clears}
use Rattle.mb_file.proofs.Acting.{emptied, asked_emptying}
use Rattle.mb_file.proofs.clears.empty.Goals as goal

pub returns-in-Done-clause-answer : goal.returns-in-Done-clause-answer
returns-in-Done-clause-answer g c = λ image tree part volume opens demanded.
    emptied (g.V.View.shown c.args.view.now) image tree part volume opens demanded c.args.ino c.args.moment c.clear.new.changes
    (subst (λ old. Clears (g.V.View.shown c.args.view.now) old c.clear.new.changes c.args.ino c.args.moment hung.Done) c.new-changes.ensures c.in-Done.ensures)

pub returns-in-Need-clause-answer : goal.returns-in-Need-clause-answer
returns-in-Need-clause-answer g c = λ image tree part volume opens demanded.
    asked_emptying (g.V.View.shown c.args.view.now) image tree part volume opens demanded c.args.ino c.args.moment c.clear.new.changes c.in-Need.need
    (subst (λ old. Clears (g.V.View.shown c.args.view.now) old c.clear.new.changes c.args.ino c.args.moment (hung.Need c.in-Need.need)) c.new-changes.ensures c.in-Need.ensures)
