-- Two views without the turn may be made one.
use Rattle.std.proofs.Common.{rules, ap}
use Rattle.mb_turn.proofs.Parts.{joins}
use Rattle.mb_turn.proofs.turn.absorb.Goals as goal

pub join_seat-requires : goal.join_seat-requires
join_seat-requires g c =
    (search rules, search rules, search rules, search rules, joins _ _ _ _ _ _ _ _ _ c.requires.free.0 (ap (λ m. m.0.holds) c.into_seat.ensures.1))
