use Rattle.mb_blocks.proofs.LaidRules.{next_in_chain}
use Rattle.mb_blocks.proofs.laws.next_in_chain.Goals as goal

pub returns : goal.returns
returns c = next_in_chain
