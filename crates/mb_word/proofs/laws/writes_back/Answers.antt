use Rattle.mb_word.proofs.Values.{word_unchanged, long_unchanged, addr_unchanged}
use Rattle.mb_word.proofs.laws.writes_back.Goals as goal

pub returns-clause-word : goal.returns-clause-word
returns-clause-word c = word_unchanged

pub returns-clause-long : goal.returns-clause-long
returns-clause-long c = long_unchanged

pub returns-clause-addr : goal.returns-clause-addr
returns-clause-addr c = addr_unchanged
