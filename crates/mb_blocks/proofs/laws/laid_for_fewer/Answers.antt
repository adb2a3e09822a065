use Rattle.mb_blocks.proofs.LettingGo.{laid_fewer}
use Rattle.mb_blocks.proofs.laws.laid_for_fewer.Goals as goal

pub returns : goal.returns
returns c = laid_fewer
