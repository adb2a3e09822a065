use Rattle.std.proofs.Common.{◌+◌, refl, arith}
use Rattle.mb_file.proofs.Reading.{copied_next}
use Rattle.mb_file.proofs.reads.copy.Goals as goal

pub loop-done-preserved : goal.loop-done-preserved
loop-done-preserved g c = (
  omega (arith, c.loop-done-test.true, c.min-some.ensures),
  copied_next (g.V.View.shown c.args.view.now) c.args.changes.now c.args.ino c.args.offset c.loop-done.done c.min-some.result (c.loop-done.done + c.min-some.result) c.loop-done.bytes.items c.copy_part.new.bytes.items refl
      (omega (arith, c.min-some.ensures)) c.in-Done.ensures c.loop-done.invariant.1,
)
