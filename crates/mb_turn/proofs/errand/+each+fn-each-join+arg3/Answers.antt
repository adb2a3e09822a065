-- The last owner's errand and those of the others, put together.
use Rattle.std.proofs.Common.{}
use Rattle.mb_turn.proofs.Lists.{zip_push}
use Rattle.mb_turn.proofs.errand.+each+fn-each-join+arg3.Goals as goal

pub returns-clause-gives : goal.returns-clause-gives
returns-clause-gives g t c =
    rw (c.in-Some.ensures.items, c.push_reserved.ensures.items) (zip_push _ c.pop.new.self.items c.join-one.result.1.items _ _ c.join-one.ensures.second.1 c.join-one.ensures.first)
