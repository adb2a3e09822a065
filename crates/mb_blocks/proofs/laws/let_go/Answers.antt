use Rattle.mb_blocks.proofs.LettingGo.{laid_less}
use Rattle.mb_blocks.proofs.Conserving.{conserved_less}
use Rattle.mb_blocks.proofs.laws.let_go.Goals as goal

pub returns : goal.returns
returns c = λ has blocks ino held loose chain laid is lists. (
  laid_less has blocks ino held loose chain laid is lists,
  conserved_less has blocks ino held loose chain laid is lists,
)
