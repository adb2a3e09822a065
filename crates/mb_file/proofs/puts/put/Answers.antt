use Rattle.std.proofs.Common.{[], Some, subst, arith}
use Rattle.mb_file.specs.Putting.{LacksForPut, PutsWhole}
use Rattle.mb_file.specs.declared.puts.Written.TheVariants as written
use Rattle.mb_file.proofs.PuttingWhole.{put_done, put_no_space, put_asked}
use Rattle.mb_file.proofs.puts.put.Goals as goal

pub returns-in-Done-clause-answer : goal.returns-in-Done-clause-answer
returns-in-Done-clause-answer g c = λ image tree part volume opens demanded.
    put_done (g.V.View.shown c.args.view.now) image tree part volume opens demanded c.args.ino c.args.offset c.args.bytes.now c.args.moment (omega arith) c.put_whole.new.changes
    (subst (λ old. PutsWhole (g.V.View.shown c.args.view.now) old c.put_whole.new.changes c.args.ino c.args.offset c.args.bytes.now c.args.moment written.Done) c.in-Ok.ensures c.in-Done.ensures)

pub returns-in-NoneLeft-clause-answer : goal.returns-in-NoneLeft-clause-answer
returns-in-NoneLeft-clause-answer g c = λ image tree part volume opens demanded.
    put_no_space (g.V.View.shown c.args.view.now) image tree part volume opens demanded c.args.ino c.args.offset c.args.bytes.now c.args.moment (omega arith) c.put_whole.new.changes
    (subst (λ old. PutsWhole (g.V.View.shown c.args.view.now) old c.put_whole.new.changes c.args.ino c.args.offset c.args.bytes.now c.args.moment written.NoneLeft) c.in-Ok.ensures c.in-NoneLeft.ensures)

pub returns-in-Need-clause-answer : goal.returns-in-Need-clause-answer
returns-in-Need-clause-answer g c = λ image tree part volume opens demanded.
    put_asked (g.V.View.shown c.args.view.now) image tree part volume opens demanded c.args.ino c.args.offset c.args.bytes.now c.args.moment (omega arith) c.put_whole.new.changes c.in-Need.need
    (subst (λ old. PutsWhole (g.V.View.shown c.args.view.now) old c.put_whole.new.changes c.args.ino c.args.offset c.args.bytes.now c.args.moment (written.Need c.in-Need.need)) c.in-Ok.ensures c.in-Need.ensures)

pub returns-in-Some-clause-answer : goal.returns-in-Some-clause-answer
returns-in-Some-clause-answer g c = λ image tree part volume opens demanded.
    put_asked (g.V.View.shown c.args.view.now) image tree part volume opens demanded c.args.ino c.args.offset c.args.bytes.now c.args.moment (omega arith) [] c.in-Some.need
    (subst (λ old. LacksForPut (g.V.View.shown c.args.view.now) old c.args.ino (Some c.in-Some.need)) c.new-none.ensures c.in-Some.ensures)
