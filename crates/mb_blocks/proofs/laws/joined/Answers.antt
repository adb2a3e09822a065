use Rattle.std.proofs.Common.{◌++◌}
use Rattle.mb_blocks.proofs.LettingGo.{laid_more}
use Rattle.mb_blocks.proofs.Conserving.{conserved_more}
use Rattle.mb_blocks.proofs.laws.joined.Goals as goal

pub returns : goal.returns
returns c = λ few has blocks loose chain within adds laid. (
  laid_more few has blocks adds loose chain laid,
  conserved_more few has blocks (loose ++ chain) within adds,
)
