use Rattle.mb_copies.proofs.Chains.{chained_none}
use Rattle.mb_copies.proofs.places.Places.new.Goals as goal

pub invariant_of-result : goal.invariant_of-result
invariant_of-result c = chained_none c.new-3.result.items c.new-2.result.items c.new.result.items c.new.ensures c.new-2.ensures c.new-3.ensures.items
