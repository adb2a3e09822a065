use Rattle.mb_moves.proofs.CacheWrites.{cache_advances}
use Rattle.mb_moves.proofs.laws.cache_advances.Goals as goal

pub returns : goal.returns
returns c = cache_advances
