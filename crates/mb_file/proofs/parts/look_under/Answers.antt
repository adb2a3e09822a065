use Rattle.std.proofs.Common.{arith}
use Rattle.mb_file.proofs.Looking.{asked_entry}
use Rattle.mb_file.proofs.parts.look_under.Goals as goal

pub returns-in_default-seen : goal.returns-in_default-seen
returns-in_default-seen g c = asked_entry (g.V.View.shown c.args.view.now) c.args.changes.now c.args.index c.loop-at.at c.long_at-block.result c.in-Some.bytes.now c.run.result c.requires.some
    (omega (arith, c.loop-at-test.true, c.min.ensures, c.requires.place)) c.long_at-block.ensures c.in-Some.ensures.found c.run.ensures.need c.run.ensures.run.begins
