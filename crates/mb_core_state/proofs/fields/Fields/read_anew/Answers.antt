use Rattle.std.proofs.Common.{ap}
use Rattle.mb_cache.specs.State.{CacheState}
use Rattle.mb_cache.proofs.Cleaning.{reads_first}
use Rattle.mb_core_state.proofs.fields.Fields.read_anew.Goals as goal

pub returns-clause-anew : goal.returns-clause-anew
returns-clause-anew g c = reads_first c.forget_clean.new.self c.read.new.self 1 _ (ap (λ (cache : CacheState _). cache.room.clean) c.forget_clean.ensures) c.read.ensures.clean
