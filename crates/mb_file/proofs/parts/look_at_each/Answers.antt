use Rattle.mb_file.proofs.Finding.{asked_part}
use Rattle.mb_file.proofs.parts.look_at_each.Goals as goal

pub returns-in_default : goal.returns-in_default
returns-in_default g c = asked_part (g.V.View.shown c.args.view.now) c.args.changes.now c.args.ino c.loop-part.part c.in-Block.block c.run.result c.in-Block.ensures c.run.ensures.need c.run.ensures.run.begins
