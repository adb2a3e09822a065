-- The value goes home with the turn.
use Rattle.std.proofs.Common.{rules}
use Rattle.mb_turn.proofs.Holding.{gives_at}
use Rattle.mb_turn.proofs.turn.give_up.Goals as goal

pub store-requires : goal.store-requires
store-requires g c = (search rules, search rules, gives_at _ _ _ _ _ _ _ _ _ _ c.requires.seat c.requires.table.2)
