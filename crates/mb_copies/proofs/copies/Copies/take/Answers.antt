use Rattle.std.proofs.Common.{[], ◌∙◌, ℕ, get_or, arith}
use Rattle.std.proofs.lemmas.Option.{slice_get-get_or}
use Rattle.mb_cache.specs.Kept.{KeptBlock}
use Rattle.mb_copies.proofs.CopyLoops.{taken_more}
use Rattle.mb_copies.proofs.copies.Copies.take.Goals as goal

pub loop-at-preserved : goal.loop-at-preserved
loop-at-preserved c =
    let none : ℕ × KeptBlock = (0, record { bytes = []; stamp = 0 }) in
    let read = get_or c.loop-at.reads c.loop-at.at none in
    let here = slice_get-get_or c.loop-at.reads c.loop-at.at none (omega (arith, c.loop-at-test.true, c.loop-at.invariant.within, c.loop-at.invariant.count)) in
    record {
      copies = taken_more c.loop-at.self.items c.put_from.new.self.items c.loop-at.reads c.put_from.new.reads _ c.loop-at.at read.0 read.1 c.loop-at.invariant.copies here (c.put_from.ensures.items read.0 read.1 here) c.put_from.ensures.behind;
      room = omega (arith, c.put_from.ensures.spare, c.loop-at.invariant.room);
      within = c.loop-at.invariant.within;
      count = c.put_from.ensures.count ∙ c.loop-at.invariant.count;
    }
