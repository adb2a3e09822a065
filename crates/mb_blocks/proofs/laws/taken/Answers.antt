use Rattle.mb_blocks.proofs.Taking.{laid_taken, taken_held}
use Rattle.mb_blocks.proofs.Conserving.{conserved_taken}
use Rattle.mb_blocks.proofs.laws.taken.Goals as goal

pub returns : goal.returns
returns c = λ has old new block loose chain laid taken.
    (let t = laid_taken has old new block loose chain laid taken in
    record {
      left = t.0;
      was = t.1;
      laid = t.2;
      held = taken_held has old new block loose chain laid taken;
      conserves = conserved_taken has old new block loose chain t.0 laid taken t.1;
    })
