use Rattle.mb_word.proofs.Values.{word_back, long_back, addr_back}
use Rattle.mb_word.proofs.laws.reads_back.Goals as goal

pub returns-clause-word : goal.returns-clause-word
returns-clause-word c = word_back

pub returns-clause-long : goal.returns-clause-long
returns-clause-long c = long_back

pub returns-clause-addr : goal.returns-clause-addr
returns-clause-addr c = addr_back
