use Rattle.mb_blocks.proofs.LaidRules.{out_at_end}
use Rattle.mb_blocks.proofs.laws.out_at_end.Goals as goal

pub returns : goal.returns
returns c = out_at_end
