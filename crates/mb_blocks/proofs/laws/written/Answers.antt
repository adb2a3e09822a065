use Rattle.mb_blocks.proofs.Taking.{hand_held, laid_written}
use Rattle.mb_blocks.proofs.Conserving.{conserved_written}
use Rattle.mb_blocks.proofs.PartWriting.{rewritten_held, rewritten_laid, rewritten_conserved}
use Rattle.mb_blocks.proofs.laws.written.Goals as goal

pub returns : goal.returns
returns c = record {
  in_hand = λ has old new block loose chain laid others long. record {
    laid = laid_written has old new block loose chain laid others long;
    held = hand_held has old new block loose chain laid others long;
    conserves = conserved_written has old new block loose chain laid others long;
  };
  inode = λ has old new ino loose chain laid low written tops. record {
    laid = rewritten_laid has old new ino loose chain laid low written tops;
    held = rewritten_held has old new ino loose chain laid low written tops;
    conserves = rewritten_conserved has old new ino loose chain laid low written tops;
  };
}
