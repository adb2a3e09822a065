use Rattle.mb_blocks.proofs.LaidRules.{laid_rules}
use Rattle.mb_blocks.proofs.laws.keeps_rules.Goals as goal

pub returns : goal.returns
returns c = laid_rules
