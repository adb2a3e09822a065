use Rattle.mb_word.proofs.Values.{word_at-same, long_at-same, addr_at-same}
use Rattle.mb_word.proofs.laws.own_bytes.Goals as goal

pub returns-clause-word : goal.returns-clause-word
returns-clause-word c = word_at-same

pub returns-clause-long : goal.returns-clause-long
returns-clause-long c = long_at-same

pub returns-clause-addr : goal.returns-clause-addr
returns-clause-addr c = addr_at-same
