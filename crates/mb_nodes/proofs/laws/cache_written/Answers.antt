use Rattle.mb_nodes.proofs.CacheWrites.{cache_written}
use Rattle.mb_nodes.proofs.laws.cache_written.Goals as goal

pub returns : goal.returns
returns c = cache_written
