-- The seat that won the turn has the slot, with a value.
use Rattle.std.proofs.Common.{rules}
use Rattle.std.specs.Prelude.{Some}
use Rattle.mb_turn.proofs.Seats.{has_slot}
use Rattle.mb_turn.proofs.turn.Turn.take.Goals as goal

pub exchange-requires : goal.exchange-requires
exchange-requires g c = (search rules, (Some c.win.ensures.won.0, has_slot _ _ _ c.win.ensures.won.2))
