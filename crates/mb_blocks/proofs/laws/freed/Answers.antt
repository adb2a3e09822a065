use Rattle.mb_blocks.proofs.FreeingAll.{freed_all, onto_length}
use Rattle.mb_blocks.proofs.laws.freed.Goals as goal

pub returns : goal.returns
returns c = λ has old new blocks loose chain laid freed. (freed_all has old new blocks loose chain laid freed, onto_length blocks chain)
