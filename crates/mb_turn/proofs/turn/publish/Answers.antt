-- The value in the slot becomes the one that the rule speaks of.
use Rattle.std.proofs.Common.{rules}
use Rattle.mb_turn.proofs.Holding.{publishes_at}
use Rattle.mb_turn.proofs.turn.publish.Goals as goal

pub store-requires : goal.store-requires
store-requires g c = (search rules, search rules, publishes_at _ _ _ _ _ _ _ _ _ _ _ _ c.requires.seat.2 c.requires.count c.requires.seat.1)
