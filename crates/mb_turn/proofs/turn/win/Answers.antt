-- Where the turn is free the seat has it, and else nothing changes.
use Rattle.std.proofs.Common.{rules, ◌∙◌}
use Rattle.mb_turn.proofs.Holding.{takes_at}
use Rattle.mb_turn.proofs.turn.win.Goals as goal

pub compare_exchange-requires : goal.compare_exchange-requires
compare_exchange-requires g c = (search rules, search rules, takes_at _ _ _ _ _ _ _ _ _ _ (c.loop.invariant.me ∙ c.requires.seat))
