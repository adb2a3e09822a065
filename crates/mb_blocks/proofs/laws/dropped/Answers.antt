use Rattle.mb_blocks.proofs.Dropping.{dropped_laid, dropped_conserved}
use Rattle.mb_blocks.proofs.laws.dropped.Goals as goal

pub returns : goal.returns
returns c = λ has old mid new ino list chain laid is lists low written freed. (
  dropped_laid has old mid new ino list chain laid is lists low written freed,
  dropped_conserved has old mid new ino list chain laid is lists low written freed,
)
